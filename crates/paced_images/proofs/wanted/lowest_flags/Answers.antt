use Rattle.std.proofs.Common.{◌+◌, length, take, sym, subst}
use Rattle.paced_images.specs.Flags.{AreLowest}
use Rattle.paced_images.proofs.FlagLists.{lowest_more, lowest_same}
use Rattle.paced_images.proofs.wanted.lowest_flags.Goals as goal
use Rattle.paced_images.proofs.wanted.lowest_flags.Goals.{then-site, else-site}

pub loop-site-preserved : goal.loop-site-preserved
loop-site-preserved c =
    let v = c.args.graph.now in
    let sites = c.args.sites.now in
    let i = c.loop-site.site-index in
    let n = length c.args.graph.now.code.edges in
    elim c.if-site.branch [
      | then-site w ↦ subst (λ (x : _). AreLowest c.args.graph.now (take (c.loop-site.site-index + 1) c.args.sites.now) (length c.args.graph.now.code.edges) x.items) (sym w.flags-is)
          (lowest_more v sites i _ n c.loop-site.flags.items w.raise.new.flags.items c.loop-site-test.true w.if-site.true c.loop-site.invariant w.raise.ensures)
      | else-site w ↦ subst (λ (x : _). AreLowest c.args.graph.now (take (c.loop-site.site-index + 1) c.args.sites.now) (length c.args.graph.now.code.edges) x.items) (sym w.flags-is)
          (lowest_same v sites i _ n c.loop-site.flags.items c.loop-site-test.true w.if-site.false c.loop-site.invariant)
    ]
