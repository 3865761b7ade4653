use Rattle.std.proofs.Common.{◌∙◌}
use Rattle.flow_graph.specs.FlowGraph.{graph}
use Rattle.image_check.proofs.TreeFacts.{leaves_edge}
use Rattle.image_check.proofs.uses.leaves.Goals as goal

pub returns : goal.returns
returns c =
    let is = c.requires.found.3 in
    c.way_leaves.ensures
    ∙ leaves_edge c.args.graph.now c.args.tree.now is.tree.0 is.code.flow is.tree.1 c.args.k c.source-from.result ((graph c.args.graph.now).source c.args.e) c.target-to.result ((graph c.args.graph.now).target c.args.e)
    c.requires.within c.source-from.ensures.node c.target-to.ensures.within c.target-to.ensures.none c.target-to.ensures.some
