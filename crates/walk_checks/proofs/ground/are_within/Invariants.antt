use Rattle.std.proofs.Common.{ℕ, ◌<◌, get_or}
use Rattle.bound_laws.specs.Values.{Arc}
use Rattle.walk_checks.specs.Walked.{IsShort}
use Rattle.walk_checks.proofs.ground.are_within.Given as goal

abbrev pub invariant-loop-x : goal.invariant-loop-x
invariant-loop-x l = (j : ℕ) (other : Arc) → j < l.x-index → IsShort l.table (get_or l.intervals j other)
