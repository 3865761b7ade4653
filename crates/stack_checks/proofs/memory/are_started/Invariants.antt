use Rattle.std.proofs.Common.{ℕ, ◌<◌, get_or, Some}
use Rattle.scale_base.specs.Image.{loaded_byte}
use Rattle.stack_laws.specs.Cells.{IsCellHeld}
use Rattle.stack_tables.specs.declared.tables.Cell.{Cell}
use Rattle.stack_tables.specs.Tables.{cell_view}
use Rattle.stack_checks.proofs.memory.are_started.Given as goal

abbrev pub invariant-loop-cell : goal.invariant-loop-cell
invariant-loop-cell l = (i : ℕ) (other : Cell) → i < l.cell-index → IsCellHeld (Some (cell_view (get_or l.cells i other))) (loaded_byte l.view)
