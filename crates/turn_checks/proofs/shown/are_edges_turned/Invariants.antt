use Rattle.std.proofs.Common.{ℕ, ◌<◌}
use Rattle.flow_graph.specs.FlowGraph.{graph}
use Rattle.turn_checks.specs.Turned.{IsEdgeTurned}
use Rattle.turn_checks.proofs.shown.are_edges_turned.Given as goal

abbrev pub invariant-loop-e : goal.invariant-loop-e
invariant-loop-e l = (e : ℕ) → e < l.e → IsEdgeTurned l.case (graph l.case.claim.now.graph.now) e
