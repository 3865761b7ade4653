use Rattle.std.proofs.Common.{◌∙◌, refl, sym, subst}
use Rattle.std.proofs.lemmas.Bool.{not-true}
use Rattle.turn_laws.specs.Relating.{IsBegun}
use Rattle.turn_checks.proofs.Cases.{rows_begun_in, started_in}
use Rattle.turn_checks.proofs.shown.is_header_so.Goals as goal

pub returns : goal.returns
returns c so = record {
  first = sym c.is_body.ensures ∙ c.if-not-is_body.false;
  rows = rows_begun_in c.args.case.now (c.if-not-are_rows_begun.ensures refl);
  owns = subst IsBegun c.own_at.ensures (c.if-not-is_begun.ensures refl);
  unused = sym c.is_used.ensures ∙ c.if-is_used.false;
  started = started_in c.args.case.now (c.if-not-is_started_in.ensures refl);
  quiet = sym c.is_quiet.ensures ∙ not-true c.is_quiet.result so;
}
