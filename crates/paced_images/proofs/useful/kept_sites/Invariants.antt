use Rattle.std.proofs.Common.{take}
use Rattle.paced_images.specs.Useful.{AreKeptBy}
use Rattle.paced_images.proofs.useful.kept_sites.Given as goal

abbrev pub invariant-loop-site : goal.invariant-loop-site
invariant-loop-site l = AreKeptBy l.power l.marked (take l.site-index l.sites) l.kept.items
