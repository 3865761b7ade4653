use Rattle.std.proofs.Common.{refl, Some}
use Rattle.stack_tables.specs.declared.tables.Cell.{Cell}
use Rattle.stack_tables.specs.Tables.{IsKeptBy, cell_view}
use Rattle.stack_checks.proofs.CellRows.{one_so_far}
use Rattle.stack_checks.proofs.cells.are_kept_by.Goals as goal

pub loop-cell-preserved : goal.loop-cell-preserved
loop-cell-preserved c = one_so_far (λ (x : Cell). IsKeptBy (Some c.args.storing.now) (cell_view x)) c.args.cells.now c.loop-cell.cell-index c.cell-item.result c.loop-cell-test.true c.cell-item.is (c.if-not-is_kept_by.ensures refl) c.loop-cell.invariant
