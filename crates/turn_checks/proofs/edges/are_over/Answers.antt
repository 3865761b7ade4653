use Rattle.std.proofs.Common.{◌∙◌, refl}
use Rattle.std.proofs.lemmas.Bool.{both_ways, not-true}
use Rattle.turn_checks.proofs.Cases.{own_over_in}
use Rattle.turn_checks.proofs.edges.are_over.Goals as goal

pub returns-then-not-is_used : goal.returns-then-not-is_used
returns-then-not-is_used c so = record {
  rows = c.if-not-are_rows_over.ensures refl;
  own = own_over_in c.args.case.now c.args.k c.args.i c.args.n (c.if-not-is_own_on.ensures refl);
  used = λ on. absurd (both_ways c.is_used.result (not-true c.is_used.result so) (c.is_used.ensures ∙ on));
}

pub returns-else-not-is_used : goal.returns-else-not-is_used
returns-else-not-is_used c so = record {
  rows = c.if-not-are_rows_over.ensures refl;
  own = own_over_in c.args.case.now c.args.k c.args.i c.args.n (c.if-not-is_own_on.ensures refl);
  used = λ _. c.is_used_over.ensures so;
}
