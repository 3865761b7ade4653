use Rattle.std.proofs.Common.{ℕ, ◌<◌, get_or}
use Rattle.stack_tables.specs.declared.tables.Told.{Told}
use Rattle.stack_checks.specs.Checked.{IsToldAlong}
use Rattle.stack_checks.proofs.telling.are_all_told.Given as goal

abbrev pub invariant-loop-y : goal.invariant-loop-y
invariant-loop-y l = (i : ℕ) (other : Told) → i < l.y-index → IsToldAlong l.way (get_or l.row i other)
