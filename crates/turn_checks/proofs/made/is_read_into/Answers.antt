use Rattle.std.proofs.Common.{◌∙◌, ap, subst, sym}
use Rattle.turn_laws.specs.Relating.{IsWeaker, consumed_by}
use Rattle.turn_laws.specs.Relating.Relation.{read}
use Rattle.turn_checks.specs.Turned.{place_view, relation_view}
use Rattle.turn_checks.proofs.Cases.{place_seen}
use Rattle.turn_checks.proofs.made.is_read_into.Goals as goal

pub returns-else-not-is_reading : goal.returns-else-not-is_reading
returns-else-not-is_reading c so = (
  place_seen c.args.case.now.claim.now c.args.case.now.table.now ∙ ap place_view c.in-Input-Ecall.is-0,
  c.in-Input-Ecall.is-1,
  c.if-r-ne10.false,
  sym c.if-not-is_reading.ensures,
  subst (λ n. IsWeaker (relation_view c.args.b) (read n)) (c.consumed_by-less.ensures ∙ ap consumed_by c.own_at.ensures) (c.is_weaker.ensures so),
)
