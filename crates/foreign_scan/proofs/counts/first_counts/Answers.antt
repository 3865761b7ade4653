use Rattle.std.proofs.Common.{◌≡◌, length, subst, arith}
use Rattle.foreign_scan.specs.Counts.{AreFirstsBelow, numbered_fragments}
use Rattle.foreign_scan.proofs.counts.first_counts.Goals as goal

pub returns-clause-firsts : goal.returns-clause-firsts
returns-clause-firsts c =
    let lists = c.args.lists.now in
    let done : c.loop-e.e ≡ length c.args.lists.now.edges.now = omega arith in
    subst (λ n. AreFirstsBelow lists.edges.now lists.backs.now (numbered_fragments lists.sources.now lists.edges.now c.args.sites.now) n c.loop-e.firsts.items) done c.loop-e.invariant.firsts
