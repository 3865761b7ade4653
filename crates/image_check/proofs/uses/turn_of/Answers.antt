use Rattle.std.proofs.Common.{ap, sym, ◌∙◌}
use Rattle.flow_graph.specs.FlowGraph.{graph}
use Rattle.loop_forest.specs.Tree.{loops}
use Rattle.image_check.specs.Safe.{one_where}
use Rattle.image_check.specs.Uses.{turn_of, of_loop}
use Rattle.image_check.proofs.TreeFacts.{back_same}
use Rattle.image_check.proofs.uses.turn_of.Goals as goal

pub returns-in-Some : goal.returns-in-Some
returns-in-Some c =
    let is = c.requires.found.3 in
    c.one_where.ensures.value
    ∙ ap one_where (back_same c.args.graph.now c.args.tree.now is.tree.0 is.code.flow is.tree.1 c.in-Some.k c.args.e c.is_back_edge.result (c.requires.within c.in-Some.k c.in-Some.is) c.requires.edge c.is_back_edge.ensures.0 c.is_back_edge.ensures.1)
    ∙ sym (ap (λ o. of_loop (turn_of (graph c.args.graph.now) (loops c.args.graph.now c.args.tree.now)) o c.args.e) c.in-Some.is)
