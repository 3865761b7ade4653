use Rattle.std.proofs.Common.{ℕ, ◌<◌}
use Rattle.copy_checks.specs.Checked.{IsEdgeSo}
use Rattle.copy_checks.proofs.edges.are_edges_so.Given as goal

abbrev pub invariant-loop-e : goal.invariant-loop-e
invariant-loop-e l = (e : ℕ) → e < l.e → IsEdgeSo l.case e
