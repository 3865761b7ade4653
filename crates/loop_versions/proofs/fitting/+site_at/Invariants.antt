use Rattle.std.proofs.Common.{length}
use Rattle.loop_versions.proofs.fitting.+site_at.Given as goal

abbrev pub decreases-site_at : goal.decreases-site_at
decreases-site_at l = length l.sites.now
