use Rattle.std.proofs.Common.{refl}
use Rattle.stack_checks.proofs.Dwindlings.{divided_at}
use Rattle.stack_checks.proofs.dwindling.is_some_divided.Goals as goal

pub returns-then-is_divided_on : goal.returns-then-is_divided_on
returns-then-is_divided_on c so = divided_at c.args.way.now c.args.row.now c.args.y.now c.loop-z.z-index _ c.loop-z-test.true (c.if-is_divided_on.ensures refl)
