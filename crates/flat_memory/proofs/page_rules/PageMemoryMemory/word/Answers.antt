use Rattle.std.proofs.Common.{◌∙◌, ap, sym}
use Rattle.std.specs.Prelude.{option_copied}
use Rattle.flat_memory.specs.Lists.{list_bytes}
use Rattle.flat_memory.proofs.PageLaws.{page_word, rest_word}
use Rattle.flat_memory.proofs.page_rules.PageMemoryMemory.word.Goals as goal

pub returns-in-Some : goal.returns-in-Some
returns-in-Some c =
    c.word.ensures
    ∙ page_word c.args.self.now.pages.groups.items (list_bytes c.args.self.now.ranges) c.args.at c.in-Some.page.now c.requires (sym c.page.ensures ∙ ap option_copied c.in-Some.is)

pub returns-in-None : goal.returns-in-None
returns-in-None c =
    c.word-in-None.ensures
    ∙ rest_word c.args.self.now.pages.groups.items (list_bytes c.args.self.now.ranges) c.args.at c.requires (sym c.page.ensures ∙ ap option_copied c.in-None.is)
