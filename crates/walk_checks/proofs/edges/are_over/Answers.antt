use Rattle.std.proofs.Common.{◌∙◌, refl, subst}
use Rattle.std.proofs.lemmas.Bool.{both_ways, not-true}
use Rattle.stack_tables.specs.Tables.{values_in}
use Rattle.walk_areas.specs.Walking.{IsHolderOver}
use Rattle.walk_checks.specs.Walked.{at_of, cert}
use Rattle.walk_checks.proofs.edges.are_over.Goals as goal

pub returns-then-not-is_touched : goal.returns-then-not-is_touched
returns-then-not-is_touched c so = record {
  rows = c.if-not-are_rows_over.ensures refl;
  words = c.if-not-are_words_over.ensures refl;
  holder = subst (IsHolderOver (values_in c.args.case.now.claim.now) (cert c.args.case.now) (at_of c.args.case.now c.args.k) c.args.i) c.holder_at.ensures (c.if-not-is_holder_over.ensures refl);
  touched = λ on. absurd (both_ways c.is_touched.result (not-true c.is_touched.result so) (c.is_touched.ensures ∙ on));
}

pub returns-else-not-is_touched : goal.returns-else-not-is_touched
returns-else-not-is_touched c so = record {
  rows = c.if-not-are_rows_over.ensures refl;
  words = c.if-not-are_words_over.ensures refl;
  holder = subst (IsHolderOver (values_in c.args.case.now.claim.now) (cert c.args.case.now) (at_of c.args.case.now c.args.k) c.args.i) c.holder_at.ensures (c.if-not-is_holder_over.ensures refl);
  touched = λ _. c.is_touched_over.ensures so;
}
