use Rattle.std.proofs.Common.{ap, sym, ◌∙◌}
use Rattle.flow_graph.specs.FlowGraph.{graph}
use Rattle.loop_forest.specs.Tree.{loops}
use Rattle.image_check.specs.Safe.{one_where}
use Rattle.image_check.specs.Uses.{exit_of, of_loop}
use Rattle.image_check.proofs.uses.exit_of.Goals as goal

pub returns-in-Some : goal.returns-in-Some
returns-in-Some c =
    c.one_where.ensures.value ∙ ap one_where c.leaves.ensures
    ∙ sym (ap (λ o. of_loop (exit_of (graph c.args.graph.now) (loops c.args.graph.now c.args.tree.now)) o c.args.e) c.in-Some.is)
