use Rattle.std.proofs.Common.{◌∙◌, ap, refl, subst}
use Rattle.turn_laws.specs.Relating.{IsWeaker, Relation}
use Rattle.turn_checks.specs.Turned.{place_view, relation_view}
use Rattle.turn_checks.proofs.Cases.{place_seen}
use Rattle.turn_checks.proofs.made.is_loaded_own.Goals as goal

pub returns-else-not-is_loaded_to : goal.returns-else-not-is_loaded_to
returns-else-not-is_loaded_to c so = (
  c.in-Word.word,
  place_seen c.args.case.now.claim.now c.args.case.now.table.now ∙ ap place_view c.in-Word.is,
  c.if-not-is_loaded_to.ensures refl,
  subst (λ (p : Relation). IsWeaker (relation_view c.args.b) p) c.own_at.ensures (c.is_weaker.ensures so),
)
