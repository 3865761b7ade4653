use Rattle.std.proofs.Common.{◌∙◌, refl, sym}
use Rattle.std.proofs.lemmas.Bool.{not-true}
use Rattle.walk_checks.proofs.shown.is_header_so.Goals as goal

pub returns : goal.returns
returns c so = record {
  first = sym c.is_body.ensures ∙ c.if-not-is_body.false;
  rows = c.if-not-are_rows_begun.ensures refl;
  words = c.if-not-are_words_begun.ensures refl;
  untouched = sym c.is_touched.ensures ∙ c.if-is_touched.false;
  unheld = c.if-not-is_unheld.ensures refl;
  quiet = sym c.is_quiet.ensures ∙ not-true c.is_quiet.result so;
}
