use Rattle.std.proofs.Common.{ℕ, ◌<◌, get_or, Some}
use Rattle.bound_laws.specs.Values.{Arc}
use Rattle.stack_checks.specs.Checked.{IsCutOf}
use Rattle.stack_checks.proofs.accesses.are_cut.Given as goal

abbrev pub invariant-loop-area : goal.invariant-loop-area
invariant-loop-area l = (j : ℕ) (other : Arc) → j < l.area-index → IsCutOf (Some l.i) l.to (get_or l.areas j other)
