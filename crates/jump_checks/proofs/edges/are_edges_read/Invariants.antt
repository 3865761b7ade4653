use Rattle.std.proofs.Common.{ℕ, ◌<◌}
use Rattle.jump_checks.specs.Claimed.{IsEdgeSo}
use Rattle.jump_checks.proofs.edges.are_edges_read.Given as goal

abbrev pub invariant-loop-e : goal.invariant-loop-e
invariant-loop-e l = (e : ℕ) → e < l.e → IsEdgeSo l.claim e
