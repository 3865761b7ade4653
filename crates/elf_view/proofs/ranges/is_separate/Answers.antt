use Rattle.std.proofs.Common.{sym, ◌∙◌}
use Rattle.elf_view.proofs.AscendingLemmas.{none-begun, some-begun}
use Rattle.elf_view.proofs.ranges.is_separate.Goals as goal

pub returns-in-Some : goal.returns-in-Some
returns-in-Some c = sym (some-begun 0 c.args.ends.now.entries _ _ c.args.range c.requires.ascending (sym (c.range.ensures.between tt) ∙ c.in-Some.ensures.steps))

pub returns-in-None : goal.returns-in-None
returns-in-None c = sym (none-begun c.args.ends.now.entries c.args.range (sym (c.range.ensures.between tt) ∙ c.in-None.ensures.steps.0))
