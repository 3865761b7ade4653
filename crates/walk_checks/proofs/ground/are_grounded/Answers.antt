use Rattle.std.proofs.Common.{refl}
use Rattle.bound_laws.specs.Values.{Arc}
use Rattle.walk_checks.specs.Walked.{IsGrounded}
use Rattle.walk_checks.proofs.Cases.{one_so_far}
use Rattle.walk_checks.proofs.ground.are_grounded.Goals as goal

pub loop-area-preserved : goal.loop-area-preserved
loop-area-preserved c = one_so_far (λ (x : Arc). IsGrounded c.args.table.now x) c.args.areas.now c.loop-area.area-index c.area-item.result c.loop-area-test.true c.area-item.is (c.if-not-is_grounded.ensures refl) c.loop-area.invariant
