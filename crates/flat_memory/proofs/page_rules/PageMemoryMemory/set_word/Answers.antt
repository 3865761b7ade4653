use Rattle.std.proofs.Common.{◌≡◌, ◌∙◌, ◌/◌, ◌%◌, sym, true, false, is_some}
use Rattle.flat_memory.specs.Lists.{list_bytes}
use Rattle.flat_memory.specs.Pages.{put_word}
use Rattle.flat_memory.specs.PageTables.{page_at}
use Rattle.flat_memory.proofs.PageLaws.{paged_put_word, paged_put_words, paged_put_none}
use Rattle.flat_memory.proofs.page_rules.PageMemoryMemory.set_word.Goals as goal

pub returns-then-not-set_word-clause-written : goal.returns-then-not-set_word-clause-written
returns-then-not-set_word-clause-written c =
    let none : is_some (page_at c.args.self.now.pages.groups.items (c.args.at / 4096)) ≡ false = cc in
    paged_put_none c.args.self.now.pages.groups.items c.set_word.new.self.groups.items (c.args.at / 4096) (list_bytes c.set_word-then-not-set_word.new.self) (λ xs. put_word xs (c.args.at % 4096) c.args.value) c.set_word.ensures.put none
    ∙ paged_put_words c.args.self.now.pages.groups.items c.args.at c.args.value (list_bytes c.args.self.now.ranges) (list_bytes c.set_word-then-not-set_word.new.self) c.requires.aligned none c.set_word-then-not-set_word.ensures.written

pub returns-else-not-set_word-clause-written : goal.returns-else-not-set_word-clause-written
returns-else-not-set_word-clause-written c =
    let there : is_some (page_at c.args.self.now.pages.groups.items (c.args.at / 4096)) ≡ true = cc in
    paged_put_word c.args.self.now.pages.groups.items c.set_word.new.self.groups.items c.args.at c.args.value (list_bytes c.args.self.now.ranges) c.requires.aligned c.set_word.ensures.put there
