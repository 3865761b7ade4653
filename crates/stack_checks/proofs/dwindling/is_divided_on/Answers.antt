use Rattle.stack_checks.proofs.dwindling.is_divided_on.Goals as goal

pub returns-in-Some-Some : goal.returns-in-Some-Some
returns-in-Some-Some c so = record {
  lost = c.in-Some-Some.lost;
  more = c.in-Some-Some.more;
  bits = c.is_enough.ensures.bits so;
  less = c.in-Some-Some.ensures;
  counted = c.in-Some-Some.ensures';
  room = c.is_enough.ensures.room so;
}
