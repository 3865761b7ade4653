use Rattle.std.proofs.Common.{ℕ, ◌<◌}
use Rattle.flow_graph.specs.FlowGraph.{graph}
use Rattle.walk_checks.specs.Walked.{IsEdgeWalked}
use Rattle.walk_checks.proofs.shown.are_edges_walked.Given as goal

abbrev pub invariant-loop-e : goal.invariant-loop-e
invariant-loop-e l = (e : ℕ) → e < l.e → IsEdgeWalked l.case (graph l.case.claim.now.graph.now) e
