use Rattle.std.proofs.Common.{ℕ, ◌<◌, get_or}
use Rattle.bound_laws.specs.Values.{Arc}
use Rattle.walk_checks.specs.Walked.{IsGrounded}
use Rattle.walk_checks.proofs.ground.are_grounded.Given as goal

abbrev pub invariant-loop-area : goal.invariant-loop-area
invariant-loop-area l = (j : ℕ) (other : Arc) → j < l.area-index → IsGrounded l.table (get_or l.areas j other)
