use Rattle.std.proofs.Common.{refl}
use Rattle.stack_tables.specs.declared.tables.Told.{Told}
use Rattle.stack_checks.specs.Checked.{IsToldAlong}
use Rattle.stack_checks.proofs.CellRows.{one_so_far}
use Rattle.stack_checks.proofs.telling.are_all_told.Goals as goal

pub loop-y-preserved : goal.loop-y-preserved
loop-y-preserved c = one_so_far (λ (y : Told). IsToldAlong c.args.way.now y) c.args.row.now c.loop-y.y-index c.y-item.result c.loop-y-test.true c.y-item.is (c.if-not-is_told.ensures refl) c.loop-y.invariant
