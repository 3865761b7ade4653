use Rattle.std.proofs.Common.{ℕ, ◌*◌, ◌-◌, ◌^◌, ◌≤◌, Option, ap, subst, sym, ◌∙◌}
use Rattle.std.specs.Prelude.{is_some}
use Rattle.bound_laws.specs.Values.{Arc, top_of}
use Rattle.stack_checks.proofs.Dwindlings.{short_product}
use Rattle.stack_checks.proofs.dwindling.product_bits.Goals as goal

pub returns-then-bits-le32 : goal.returns-then-bits-le32
returns-then-bits-le32 c = (
  sym (ap (λ (o : Option Arc). is_some o) c.held_at-held.ensures.held) ∙ (sym c.is_some.ensures ∙ c.if-is_some.true),
  subst (λ (t : ℕ). t * 2 ^ (32 - c.bits_of-bits.result) ≤ 2 ^ 32) (c.top_of.ensures.top ∙ ap (λ (o : Option Arc). top_of o) c.held_at-held.ensures.held)
      (short_product c.top_of.result c.bits_of-bits.result c.bits_of-bits.ensures c.if-bits-le32.true),
)
