use Rattle.stack_checks.proofs.Reaching.{in_none}
use Rattle.stack_checks.proofs.areas.is_held.Goals as goal

pub returns-then-span-eq0 : goal.returns-then-span-eq0
returns-then-span-eq0 c so = in_none c.args.areas.now c.args.span c.if-span-eq0.true
