use Rattle.std.proofs.Common.{ℕ, ◌<◌, get_or}
use Rattle.stack_tables.specs.declared.tables.Cell.{Cell}
use Rattle.stack_tables.specs.Tables.{HasKeptValues}
use Rattle.stack_tables.proofs.sizes.are_cells_kept.Given as goal

abbrev pub invariant-loop-cell : goal.invariant-loop-cell
invariant-loop-cell l = (i : ℕ) (other : Cell) → i < l.cell-index → HasKeptValues (get_or l.cells i other)
