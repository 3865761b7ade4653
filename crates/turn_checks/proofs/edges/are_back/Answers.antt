use Rattle.std.proofs.Common.{◌∙◌, refl, sym}
use Rattle.std.proofs.lemmas.Bool.{both_ways, not-true}
use Rattle.turn_checks.proofs.Cases.{own_back_in}
use Rattle.turn_checks.proofs.edges.are_back.Goals as goal

pub returns-then-not-is_used : goal.returns-then-not-is_used
returns-then-not-is_used c so = record {
  rows = c.if-not-are_rows_back.ensures refl;
  own = own_back_in c.args.case.now c.args.call.from c.args.call.entry c.args.n c.own_at.result c.own_at.ensures (c.if-not-is_own_back.ensures refl);
  used = λ on. absurd (both_ways c.is_used.result (not-true c.is_used.result so) (c.is_used.ensures ∙ on));
}

pub returns-else-not-is_used : goal.returns-else-not-is_used
returns-else-not-is_used c so = record {
  rows = c.if-not-are_rows_back.ensures refl;
  own = own_back_in c.args.case.now c.args.call.from c.args.call.entry c.args.n c.own_at.result c.own_at.ensures (c.if-not-is_own_back.ensures refl);
  used = λ _. sym c.is_used-else-not-is_used.ensures ∙ so;
}
