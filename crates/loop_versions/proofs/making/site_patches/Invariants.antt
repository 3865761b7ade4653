use Rattle.std.proofs.Common.{◌≡◌, take}
use Rattle.loop_versions.specs.Made.{site_patches}
use Rattle.loop_versions.proofs.making.site_patches.Given as goal

abbrev pub invariant-loop-site : goal.invariant-loop-site
invariant-loop-site l = l.patches.items ≡ site_patches (take l.site-index l.sites)
