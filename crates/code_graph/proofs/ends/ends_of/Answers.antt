use Rattle.std.proofs.Common.{ap, ◌∙◌}
use Rattle.std.proofs.lemmas.Option.{slice_get-get_or}
use Rattle.cost_theory.specs.Reached.{edge_to}
use Rattle.code_graph.proofs.StepLaws.{ends_more}
use Rattle.code_graph.proofs.ends.ends_of.Goals as goal

pub source_of-requires-clause-node : goal.source_of-requires-clause-node
source_of-requires-clause-node c = c.requires.sources c.loop-edge.edge-index _ (slice_get-get_or c.args.edges.now c.loop-edge.edge-index _ c.loop-edge-test.true)

pub target_of-requires-clause-node : goal.target_of-requires-clause-node
target_of-requires-clause-node c = λ a to. c.requires.targets c.loop-edge.edge-index a (ap edge_to (slice_get-get_or c.args.edges.now c.loop-edge.edge-index _ c.loop-edge-test.true) ∙ to)

pub loop-edge-preserved : goal.loop-edge-preserved
loop-edge-preserved c =
    ends_more c.loop-edge.edge-index c.args.nodes.now c.args.edges.now c.loop-edge.sources.items _ c.loop-edge.targets.items _ _ c.source_of.result c.target_of.result
    (slice_get-get_or c.args.edges.now c.loop-edge.edge-index _ c.loop-edge-test.true) c.in_ok-push.ensures.items c.in_ok-push-2.ensures.items c.source_of.ensures
    c.target_of.ensures.some c.target_of.ensures.within c.target_of.ensures.none c.loop-edge.invariant
