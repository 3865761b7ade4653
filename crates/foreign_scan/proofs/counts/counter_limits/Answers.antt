use Rattle.std.proofs.Common.{map, ap, ◌∙◌}
use Rattle.foreign_scan.specs.Counts.{limit_of, numbered_fragments}
use Rattle.foreign_scan.proofs.CountLaws.{limits_are}
use Rattle.foreign_scan.proofs.ListLaws.{map_whole}
use Rattle.foreign_scan.proofs.counts.counter_limits.Goals as goal

pub returns-clause-limits : goal.returns-clause-limits
returns-clause-limits c =
    let lists = c.args.lists.now in
    let f = limit_of lists.backs.now lists.bounds.now in
    limits_are lists.edges.now lists.backs.now lists.bounds.now (numbered_fragments lists.sources.now lists.edges.now c.args.sites.now) c.in_ok-firsts.firsts.items c.loop-first.limits.items c.in_ok-firsts.ensures.firsts
    (map_whole f c.deref-first-items.result.now c.loop-first.first-index c.loop-first.limits.items c.loop-first-test.false c.loop-first.invariant ∙ ap (map f) c.deref-first-items.ensures.value)
