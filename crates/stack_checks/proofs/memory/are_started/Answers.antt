use Rattle.std.proofs.Common.{refl, Some}
use Rattle.scale_base.specs.Image.{loaded_byte}
use Rattle.stack_laws.specs.Cells.{IsCellHeld}
use Rattle.stack_tables.specs.declared.tables.Cell.{Cell}
use Rattle.stack_tables.specs.Tables.{cell_view}
use Rattle.stack_checks.proofs.CellRows.{one_so_far}
use Rattle.stack_checks.proofs.memory.are_started.Goals as goal

pub loop-cell-preserved : goal.loop-cell-preserved
loop-cell-preserved c = one_so_far (λ (x : Cell). IsCellHeld (Some (cell_view x)) (loaded_byte c.args.view.now)) c.args.cells.now c.loop-cell.cell-index c.cell-item.result c.loop-cell-test.true c.cell-item.is (c.if-not-is_cell_started.ensures refl) c.loop-cell.invariant
