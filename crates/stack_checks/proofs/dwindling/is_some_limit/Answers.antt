use Rattle.std.proofs.Common.{refl}
use Rattle.stack_checks.proofs.Dwindlings.{limit_at}
use Rattle.stack_checks.proofs.dwindling.is_some_limit.Goals as goal

pub returns-then-is_limit_of : goal.returns-then-is_limit_of
returns-then-is_limit_of c so = limit_at c.args.way.now c.args.row.now c.args.r c.loop-z.z-index _ c.loop-z-test.true (c.if-is_limit_of.ensures refl)
