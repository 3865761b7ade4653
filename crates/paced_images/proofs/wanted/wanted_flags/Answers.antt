use Rattle.std.proofs.Common.{rules, ◌≡◌, length, replicate, false}
use Rattle.paced_images.proofs.FlagLists.{flags_none, flags_more}
use Rattle.paced_images.proofs.wanted.wanted_flags.Goals as goal

pub loop-site-init : goal.loop-site-init
loop-site-init c =
    let is : c.in_ok-flags.flags.items ≡ replicate (length c.args.graph.now.code.edges) false = search rules in
    flags_none c.args.graph.now c.args.sites.now (length c.args.graph.now.code.edges) c.in_ok-flags.flags.items is

pub loop-site-preserved : goal.loop-site-preserved
loop-site-preserved c =
    flags_more c.args.graph.now c.args.sites.now c.loop-site.site-index _ (length c.args.graph.now.code.edges) c.loop-site.flags.items c.raise.new.flags.items c.loop-site-test.true c.loop-site.invariant c.raise.ensures
