use Rattle.std.proofs.Common.{ℕ, ◌<◌}
use Rattle.walk_checks.specs.Walked.{IsApartAt}
use Rattle.walk_checks.proofs.ground.is_apart.Given as goal

abbrev pub invariant-loop-j : goal.invariant-loop-j
invariant-loop-j l = (j : ℕ) → j < l.j → IsApartAt l.table l.k l.x j
