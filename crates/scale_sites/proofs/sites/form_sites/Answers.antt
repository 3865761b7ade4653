use Rattle.std.proofs.Common.{List, map, Vec, Global, subst}
use Rattle.scale_base.specs.declared.fragments.Mark.{Mark}
use Rattle.scale_sites.specs.Sites.{AreJumps}
use Rattle.scale_sites.proofs.SiteLaws.{sites_formed}
use Rattle.std.proofs.Common.{length}
use Rattle.scale_sites.proofs.sites.form_sites.Goals as goal

pub returns : goal.returns
returns c =
    let jumps = subst (λ (ms : List (Vec Mark Global)). AreJumps c.args.graph.now (map (λ (m : Vec Mark Global). m.items) ms) (length c.args.graph.now.code.edges) c.in_ok-jumps.jumps.items) c.deref.ensures.value c.in_ok-jumps.ensures in
    λ marked given. sites_formed c.args.graph.now c.args.lowest.now c.args.tallied.now c.args.sites (map (λ (m : Vec Mark Global). m.items) c.in_ok-marks.marks.items) c.in_ok-jumps.jumps.items c.in_ok-marks.ensures jumps c.requires.edges marked given
