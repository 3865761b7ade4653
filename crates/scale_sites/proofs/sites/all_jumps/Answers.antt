use Rattle.std.proofs.Common.{map, Vec, Global}
use Rattle.scale_base.specs.declared.fragments.Mark.{Mark}
use Rattle.scale_sites.proofs.SiteLaws.{jumps_push}
use Rattle.scale_sites.proofs.sites.all_jumps.Goals as goal

pub loop-e-preserved : goal.loop-e-preserved
loop-e-preserved c = rw c.in_ok-push.ensures.items
    (jumps_push c.args.graph.now (map (λ (m : Vec Mark Global). m.items) c.args.marks.now) c.loop-e.e c.loop-e.jumps.items c.jumps_over.result c.loop-e.invariant c.jumps_over.ensures.jumps c.jumps_over.ensures.few)
