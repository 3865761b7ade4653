use Rattle.std.proofs.Common.{refl}
use Rattle.walk_checks.proofs.Cases.{placed_in}
use Rattle.walk_checks.proofs.touching.is_aimed.Goals as goal

pub returns-then-is_aimed_by : goal.returns-then-is_aimed_by
returns-then-is_aimed_by c so = record {
  register = c.in-Some.register;
  more = c.in-Some.more;
  access = c.in-Some.ensures;
  aims = c.if-is_aimed_by.ensures refl;
  placed = placed_in c.args.case.now c.args.k c.in-Some.register c.in-Some.more (c.is_placed.ensures so);
}
