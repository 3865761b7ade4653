use Rattle.std.proofs.Common.{rules, ◌≡◌, ◌∙◌, length, vec_len}
use Rattle.flat_memory.proofs.WholeLaws.{whole_table, loaded_table}
use Rattle.flat_memory.proofs.page_loading.load_pages.Goals as goal

pub invariant_of-result : goal.invariant_of-result
invariant_of-result c =
    let size : length c.in_ok-pages.pages.groups.items ≡ vec_len c.in_ok-pages.pages.groups = search rules in
    record { whole = λ at. whole_table c.in_ok-ranges.ranges c.in_ok-pages.pages.groups.items at (size ∙ c.in_ok-pages.pages.count) c.in_ok-pages.ensures }

pub returns-clause-bytes : goal.returns-clause-bytes
returns-clause-bytes c =
    let size : length c.in_ok-pages.pages.groups.items ≡ vec_len c.in_ok-pages.pages.groups = search rules in
    loaded_table c.in_ok-ranges.ranges c.in_ok-pages.pages.groups.items (size ∙ c.in_ok-pages.pages.count) c.in_ok-pages.ensures
    ∙ c.in_ok-ranges.ensures.bytes
