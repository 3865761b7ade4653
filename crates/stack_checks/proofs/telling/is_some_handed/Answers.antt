use Rattle.std.proofs.Common.{refl}
use Rattle.stack_checks.proofs.Tellings.{stands}
use Rattle.stack_checks.proofs.telling.is_some_handed.Goals as goal

pub returns-then-is_handed_on : goal.returns-then-is_handed_on
returns-then-is_handed_on c so = record {
  number = c.loop-z.z-index;
  found = c.z-item.result;
  found_is = stands c.args.row.now c.loop-z.z-index c.z-item.result c.loop-z-test.true c.z-item.is;
  on = c.if-is_handed_on.ensures refl;
}
