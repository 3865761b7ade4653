use Rattle.std.proofs.Common.{◌∙◌, Some, sym}
use Rattle.walk_checks.specs.Walked.{sought_view}
use Rattle.walk_checks.proofs.Cases.{sought_seen}
use Rattle.walk_checks.proofs.touching.is_found.Goals as goal

pub returns-in-Some-Some : goal.returns-in-Some-Some
returns-in-Some-Some c so = record {
  register = c.in-Some-Some.r;
  is_register = c.is_found_in.ensures.register so;
  holder = sym c.holder_at.ensures ∙ c.in-Some-Some.is-1;
  left = c.is_found_in.ensures.left so;
  sought = sought_view c.in-Some-Some.sought;
  sought_is = sought_seen c.args.case.now (Some c.in-Some-Some.sought) c.in-Some-Some.is-0;
  covers = c.is_found_in.ensures.covers so;
}
