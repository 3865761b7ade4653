use Rattle.std.proofs.Common.{refl}
use Rattle.stack_checks.proofs.Tellings.{stands}
use Rattle.stack_checks.proofs.telling.is_some_teller.Goals as goal

pub returns-then-is_teller_of : goal.returns-then-is_teller_of
returns-then-is_teller_of c so = record {
  number = c.loop-z.z-index;
  found = c.z-item.result;
  found_is = stands c.args.row.now c.loop-z.z-index c.z-item.result c.loop-z-test.true c.z-item.is;
  of = c.if-is_teller_of.ensures refl;
}
