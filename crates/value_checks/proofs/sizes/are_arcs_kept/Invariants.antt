use Rattle.std.proofs.Common.{ℕ, ◌<◌, get_or, Option}
use Rattle.bound_laws.specs.Values.{Arc}
use Rattle.wrapped_intervals.specs.Small.{IsKeptOr}
use Rattle.value_checks.proofs.sizes.are_arcs_kept.Given as goal

abbrev pub invariant-loop-arc : goal.invariant-loop-arc
invariant-loop-arc l = (i : ℕ) (other : Option Arc) → i < l.arc-index → IsKeptOr (get_or l.row i other)
