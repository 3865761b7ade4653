use Rattle.std.proofs.Common.{◌≡◌, ◌∙◌, ◌/◌, ◌%◌, sym, true, false, is_some}
use Rattle.flat_memory.specs.Lists.{list_bytes}
use Rattle.flat_memory.specs.Pages.{put_byte}
use Rattle.flat_memory.specs.PageTables.{page_at}
use Rattle.flat_memory.proofs.PageLaws.{paged_put_byte, paged_put_rest, paged_put_none}
use Rattle.flat_memory.proofs.page_rules.PageMemoryMemory.set_byte.Goals as goal

pub returns-then-not-set_byte-clause-written : goal.returns-then-not-set_byte-clause-written
returns-then-not-set_byte-clause-written c =
    let none : is_some (page_at c.args.self.now.pages.groups.items (c.args.at / 4096)) ≡ false = cc in
    paged_put_none c.args.self.now.pages.groups.items c.set_byte.new.self.groups.items (c.args.at / 4096) (list_bytes c.set_byte-then-not-set_byte.new.self) (λ xs. put_byte xs (c.args.at % 4096) c.args.value) c.set_byte.ensures.put none
    ∙ paged_put_rest c.args.self.now.pages.groups.items c.args.at c.args.value (list_bytes c.args.self.now.ranges) (list_bytes c.set_byte-then-not-set_byte.new.self) none c.set_byte-then-not-set_byte.ensures.written

pub returns-else-not-set_byte-clause-written : goal.returns-else-not-set_byte-clause-written
returns-else-not-set_byte-clause-written c =
    let there : is_some (page_at c.args.self.now.pages.groups.items (c.args.at / 4096)) ≡ true = cc in
    paged_put_byte c.args.self.now.pages.groups.items c.set_byte.new.self.groups.items c.args.at c.args.value (list_bytes c.args.self.now.ranges) c.set_byte.ensures.put there
