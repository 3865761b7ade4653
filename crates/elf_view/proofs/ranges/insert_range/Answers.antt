use Rattle.std.proofs.Common.{◌≡◌, true, map, ap, arith, sym, ◌∙◌}
use Rattle.std.specs.List.{list_all}
use Rattle.elf_view.specs.Beside.{are_separate, range_between, ranges_by}
use Rattle.elf_view.proofs.AscendingLemmas.{insert-ranges, ascend-insert}
use Rattle.elf_view.proofs.ranges.insert_range.Goals as goal

pub returns-clause-ranges : goal.returns-clause-ranges
returns-clause-ranges c =
    let separate : list_all (λ r. are_separate r c.args.range) (ranges_by c.args.ends.now) ≡ true = sym c.is_separate.ensures ∙ c.if-not-is_separate.false in
    ap (map range_between) c.in_ok-insert.ensures.entries ∙ insert-ranges 0 c.args.ends.now.entries c.args.range c.requires.ascending c.requires.some separate

pub returns-clause-kept : goal.returns-clause-kept
returns-clause-kept c =
    let separate : list_all (λ r. are_separate r c.args.range) (ranges_by c.args.ends.now) ≡ true = sym c.is_separate.ensures ∙ c.if-not-is_separate.false in
    let are = ap (map range_between) c.in_ok-insert.ensures.entries ∙ insert-ranges 0 c.args.ends.now.entries c.args.range c.requires.ascending c.requires.some separate in
    rw are (ascend-insert 0 (ranges_by c.args.ends.now) c.args.range c.requires.ascending (omega arith) c.requires.some separate)
