use Rattle.std.proofs.Common.{◌∙◌, ap, sym}
use Rattle.flat_memory.specs.Lists.{list_layout}
use Rattle.flat_memory.specs.Pages.{writes_in}
use Rattle.flat_memory.proofs.PageLaws.{word_writes}
use Rattle.flat_memory.proofs.page_rules.PageMemoryMemory.may_write_word.Goals as goal

pub returns-in-Some : goal.returns-in-Some
returns-in-Some c =
    sym (word_writes (list_layout c.args.self.now.ranges) c.args.self.now.pages.groups.items c.args.at _ c.args.self.now.whole c.requires
    (sym (c.writes.ensures ∙ ap writes_in c.whole.ensures) ∙ c.in-Some.is))
