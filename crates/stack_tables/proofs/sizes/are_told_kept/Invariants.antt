use Rattle.std.proofs.Common.{ℕ, ◌<◌, get_or}
use Rattle.stack_tables.specs.declared.tables.Told.{Told}
use Rattle.stack_tables.specs.Tables.{IsToldKept}
use Rattle.stack_tables.proofs.sizes.are_told_kept.Given as goal

abbrev pub invariant-loop-told : goal.invariant-loop-told
invariant-loop-told l = (i : ℕ) (other : Told) → i < l.told-index → IsToldKept (get_or l.row i other)
