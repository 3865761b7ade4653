use Rattle.std.proofs.Common.{ℕ, ◌<◌, get_or}
use Rattle.wrapped_intervals.specs.declared.lines.Measure.{Measure}
use Rattle.value_checks.specs.Tables.{IsForm}
use Rattle.value_checks.proofs.sizes.are_forms.Given as goal

abbrev pub invariant-loop-form : goal.invariant-loop-form
invariant-loop-form l = (i : ℕ) (other : Measure) → i < l.form-index → IsForm (get_or l.forms i other)
