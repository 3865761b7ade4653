use Rattle.std.proofs.Common.{ℕ, ◌<◌, get_or}
use Rattle.bound_laws.specs.Values.{Arc}
use Rattle.wrapped_intervals.specs.Small.{IsKept}
use Rattle.stack_tables.proofs.sizes.are_areas_kept.Given as goal

abbrev pub invariant-loop-area : goal.invariant-loop-area
invariant-loop-area l = (i : ℕ) (other : Arc) → i < l.area-index → IsKept (get_or l.areas i other)
