use Rattle.std.proofs.Common.{ℕ, ◌<◌}
use Rattle.walk_checks.specs.Walked.{IsApart}
use Rattle.walk_checks.proofs.ground.are_apart.Given as goal

abbrev pub invariant-loop-k : goal.invariant-loop-k
invariant-loop-k l = (k : ℕ) → k < l.k → IsApart l.table k
