use Rattle.std.proofs.Common.{Some, refl}
use Rattle.flow_graph.specs.FlowGraph.{graph as graph_seen}
use Rattle.loop_forest.specs.Tree.{loops}
use Rattle.worst_walks.specs.Tallies.{place_of}
use Rattle.worst_walks.proofs.PartLaws.{path_more, leads_to}
use Rattle.worst_walks.proofs.parts.is_path.Goals as goal

pub loop-e-preserved : goal.loop-e-preserved
loop-e-preserved c =
    path_more (graph_seen c.args.graph.now) (loops c.args.graph.now c.args.tree.now) (place_of c.args.graph.now (Some c.args.start)) c.args.path.now c.loop-e.e-index _
    (place_of c.args.graph.now c.loop-e.at) (place_of c.args.graph.now c.target-at.result) c.loop-e.invariant c.loop-e-test.true refl
    (c.is_step.ensures.edge c.if-not-is_step.false) (c.is_step.ensures.starts c.if-not-is_step.false) (c.is_step.ensures.plain c.if-not-is_step.false)
    (leads_to c.args.graph.now _ c.target-at.result c.target-at.ensures.some c.target-at.ensures.none)
