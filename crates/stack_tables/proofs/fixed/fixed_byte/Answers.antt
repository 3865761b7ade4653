use Rattle.std.proofs.Common.{◌∙◌, ◌-◌, ap, get_or, sym, ℕ}
use Rattle.stack_tables.proofs.Fixing.{byte_found}
use Rattle.stack_tables.proofs.fixed.fixed_byte.Goals as goal

pub returns-then-has_address : goal.returns-then-has_address
returns-then-has_address c = byte_found c.args.at c.args.parts.now c.loop-part.part-index c.part-item.result c.loop-part-test.true c.part-item.is (sym c.has_address.ensures ∙ c.if-has_address.true) c.loop-part.invariant c.index.result.now
    (c.index.ensures ∙ ap (λ (n : ℕ). get_or c.part-item.result.bytes.items (c.args.at - n) c.index.result.now) c.from.ensures)
