use Rattle.std.proofs.Common.{ℕ, ◌<◌}
use Rattle.flow_graph.specs.FlowGraph.{graph}
use Rattle.lower_bounds.specs.LowerTables.{IsEdgeSo}
use Rattle.lower_bounds.proofs.shown.are_edges_so.Given as goal

abbrev pub invariant-loop-e : goal.invariant-loop-e
invariant-loop-e l = (e : ℕ) → e < l.e → IsEdgeSo l.case (graph l.case.claim.now.graph.now) e
