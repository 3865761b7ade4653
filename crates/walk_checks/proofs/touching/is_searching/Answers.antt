use Rattle.std.proofs.Common.{Some}
use Rattle.walk_checks.specs.Walked.{sought_view}
use Rattle.walk_checks.proofs.Cases.{sought_seen}
use Rattle.walk_checks.proofs.touching.is_searching.Goals as goal

pub returns-in-Some : goal.returns-in-Some
returns-in-Some c so = record {
  aimed = c.is_seeking.ensures.aimed so;
  register = c.is_seeking.ensures.register so;
  sought = sought_view c.in-Some.sought;
  sought_is = sought_seen c.args.case.now (Some c.in-Some.sought) c.in-Some.is;
  rs1 = (c.is_seeking.ensures.loads so).0;
  offset = (c.is_seeking.ensures.loads so).1;
  loads = (c.is_seeking.ensures.loads so).2;
}
