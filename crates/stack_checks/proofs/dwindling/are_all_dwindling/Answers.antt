use Rattle.std.proofs.Common.{refl}
use Rattle.stack_tables.specs.declared.tables.Dwindling.{Dwindling}
use Rattle.stack_checks.specs.Checked.{IsDwindlingAlong}
use Rattle.stack_checks.proofs.Dwindlings.{all_so_far}
use Rattle.stack_checks.proofs.dwindling.are_all_dwindling.Goals as goal

pub loop-y-preserved : goal.loop-y-preserved
loop-y-preserved c = all_so_far (λ (y : Dwindling). IsDwindlingAlong c.args.way.now y) c.args.row.now c.loop-y.y-index _ c.loop-y-test.true (c.if-not-is_dwindling.ensures refl) c.loop-y.invariant
