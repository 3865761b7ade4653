use Rattle.std.proofs.Common.{sym, ◌∙◌}
use Rattle.elf_view.proofs.TextLemmas.{part-low}
use Rattle.elf_view.proofs.text.TextSoFar.add.Goals as goal

pub range_of-requires : goal.range_of-requires
range_of-requires c = part-low c.args.bytes.now c.args.segments.now c.args.part.now c.requires.low (sym c.is_text_place.ensures ∙ c.if-not-is_text_place.false)
