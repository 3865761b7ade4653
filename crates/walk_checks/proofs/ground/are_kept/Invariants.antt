use Rattle.std.proofs.Common.{ℕ, ◌<◌, get_or}
use Rattle.bound_laws.specs.Values.{Arc}
use Rattle.wrapped_intervals.specs.Small.{IsKept}
use Rattle.walk_checks.proofs.ground.are_kept.Given as goal

abbrev pub invariant-loop-x : goal.invariant-loop-x
invariant-loop-x l = (j : ℕ) (other : Arc) → j < l.x-index → IsKept (get_or l.intervals j other)
