use Rattle.std.proofs.Common.{refl}
use Rattle.stack_checks.proofs.Reaching.{in_one}
use Rattle.stack_checks.proofs.areas.is_span_in_some.Goals as goal

pub returns-then-is_span_in : goal.returns-then-is_span_in
returns-then-is_span_in c so = in_one c.args.areas.now c.args.span c.loop-area.area-index c.area-item.result c.loop-area-test.true c.area-item.is (c.if-is_span_in.ensures refl)
