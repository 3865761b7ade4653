use Rattle.std.proofs.Common.{refl}
use Rattle.bound_laws.specs.Values.{Arc}
use Rattle.walk_checks.specs.Walked.{IsShort}
use Rattle.walk_checks.proofs.Cases.{one_so_far}
use Rattle.walk_checks.proofs.ground.are_within.Goals as goal

pub loop-x-preserved : goal.loop-x-preserved
loop-x-preserved c = one_so_far (λ (x : Arc). IsShort c.args.table.now x) c.args.intervals.now c.loop-x.x-index c.x-item.result c.loop-x-test.true c.x-item.is (c.if-not-is_within.ensures refl) c.loop-x.invariant
