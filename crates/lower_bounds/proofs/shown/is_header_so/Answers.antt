use Rattle.std.proofs.Common.{◌∙◌, refl, sym, subst}
use Rattle.std.proofs.lemmas.Bool.{not-true}
use Rattle.stack_laws.specs.Counting.{HasRegisters}
use Rattle.lower_bounds.proofs.Seen.{counter_seen}
use Rattle.lower_bounds.proofs.shown.is_header_so.Goals as goal

pub returns-then-is_body : goal.returns-then-is_body
returns-then-is_body c so = record {
  registers = subst HasRegisters (counter_seen c.args.case.now.claim.now c.args.case.now.table.now) (c.if-not-has_registers.ensures refl);
  head = sym c.is_body.ensures ∙ c.if-is_body.true;
  quiet = sym c.is_quiet.ensures ∙ not-true c.is_quiet.result so;
}
