use Rattle.std.proofs.Common.{◌∙◌, ap, sym}
use Rattle.flat_memory.specs.Lists.{list_layout}
use Rattle.flat_memory.specs.Pages.{reads_in}
use Rattle.flat_memory.proofs.PageLaws.{word_reads}
use Rattle.flat_memory.proofs.page_rules.PageMemoryMemory.may_read_word.Goals as goal

pub returns-in-Some : goal.returns-in-Some
returns-in-Some c =
    sym (word_reads (list_layout c.args.self.now.ranges) c.args.self.now.pages.groups.items c.args.at _ c.args.self.now.whole c.requires
    (sym (c.reads.ensures ∙ ap reads_in c.whole.ensures) ∙ c.in-Some.is))
