use Rattle.std.proofs.Common.{refl}
use Rattle.stack_tables.specs.declared.tables.FixedPart.{FixedPart}
use Rattle.stack_checks.specs.Checked.{IsFixedPart}
use Rattle.stack_checks.proofs.CellRows.{one_so_far}
use Rattle.stack_checks.proofs.fixed.are_parts_fixed.Goals as goal

pub loop-part-preserved : goal.loop-part-preserved
loop-part-preserved c = one_so_far (λ (p : FixedPart). IsFixedPart c.args.view.now p) c.args.parts.now c.loop-part.part-index c.part-item.result c.loop-part-test.true c.part-item.is (c.if-not-is_fixed.ensures refl) c.loop-part.invariant
