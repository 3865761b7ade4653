use Rattle.std.proofs.Common.{◌∙◌, ap, sym}
use Rattle.std.specs.Prelude.{option_copied}
use Rattle.flat_memory.specs.Lists.{list_bytes}
use Rattle.flat_memory.proofs.PageLaws.{page_byte, rest_byte}
use Rattle.flat_memory.proofs.page_rules.PageMemoryMemory.byte.Goals as goal

pub returns-in-Some : goal.returns-in-Some
returns-in-Some c =
    c.byte.ensures
    ∙ page_byte c.args.self.now.pages.groups.items (list_bytes c.args.self.now.ranges) c.args.at c.in-Some.page.now (sym c.page.ensures ∙ ap option_copied c.in-Some.is)

pub returns-in-None : goal.returns-in-None
returns-in-None c =
    c.byte-in-None.ensures
    ∙ rest_byte c.args.self.now.pages.groups.items (list_bytes c.args.self.now.ranges) c.args.at (sym c.page.ensures ∙ ap option_copied c.in-None.is)
