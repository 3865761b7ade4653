use Rattle.std.proofs.Common.{◌/◌, ◌∙◌, length, sym, arith}
use Rattle.scale_base.specs.Symbols.{is_named}
use Rattle.elf_image.proofs.Names.{find-next}
use Rattle.elf_image.proofs.symbols.SymbolTable.value.Goals as goal

pub loop-k-preserved : goal.loop-k-preserved
loop-k-preserved c =
    sym (find-next (is_named c.args.name.now c.args.self.now.strings.now c.args.self.now.entries.now) (length c.args.self.now.entries.now / 16) c.loop-k.k (omega arith) (sym c.is_named.ensures ∙ c.if-is_named.false)) ∙ c.loop-k.invariant
