use Rattle.std.proofs.Common.{ℕ, ◌<◌}
use Rattle.shown_bounds.specs.Returned.{IsLowerSo}
use Rattle.shown_bounds.proofs.returning.are_lower.Given as goal

abbrev pub invariant-loop-e : goal.invariant-loop-e
invariant-loop-e l = (e : ℕ) → e < l.e → IsLowerSo l.claim l.heights e
