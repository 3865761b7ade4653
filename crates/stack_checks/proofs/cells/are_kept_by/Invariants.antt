use Rattle.std.proofs.Common.{ℕ, ◌<◌, get_or, Some}
use Rattle.stack_tables.specs.declared.tables.Cell.{Cell}
use Rattle.stack_tables.specs.Tables.{IsKeptBy, cell_view}
use Rattle.stack_checks.proofs.cells.are_kept_by.Given as goal

abbrev pub invariant-loop-cell : goal.invariant-loop-cell
invariant-loop-cell l = (i : ℕ) (other : Cell) → i < l.cell-index → IsKeptBy (Some l.storing) (cell_view (get_or l.cells i other))
