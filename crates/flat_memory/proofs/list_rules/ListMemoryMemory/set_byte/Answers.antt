use Rattle.std.proofs.Common.{◌≡◌, sym, ◌∙◌, false, arith, rules}
use Rattle.scale_base.specs.Layout.{in_stack}
use Rattle.flat_memory.proofs.ListLaws.{written_block}
use Rattle.flat_memory.proofs.list_rules.ListMemoryMemory.set_byte.Goals as goal

pub put_in-requires-clause-held : goal.put_in-requires-clause-held
put_in-requires-clause-held c =
    let away : in_stack c.args.at ≡ false = sym c.in_stack.ensures ∙ c.if-in_stack.false in
    let h = written_block c.args.self.now c.args.at c.requires away in
    first_of (grind (arith, h), search (rules, h))
