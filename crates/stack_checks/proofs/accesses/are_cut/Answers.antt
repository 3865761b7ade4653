use Rattle.std.proofs.Common.{refl, Some}
use Rattle.bound_laws.specs.Values.{Arc}
use Rattle.stack_checks.specs.Checked.{IsCutOf}
use Rattle.stack_checks.proofs.CellRows.{one_so_far}
use Rattle.stack_checks.proofs.accesses.are_cut.Goals as goal

pub loop-area-preserved : goal.loop-area-preserved
loop-area-preserved c = one_so_far (λ (x : Arc). IsCutOf (Some c.args.i) c.args.to x) c.args.areas.now c.loop-area.area-index c.area-item.result c.loop-area-test.true c.area-item.is (c.if-not-is_cut.ensures refl) c.loop-area.invariant
