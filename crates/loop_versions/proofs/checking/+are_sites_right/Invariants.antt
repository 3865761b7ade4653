use Rattle.std.proofs.Common.{length}
use Rattle.loop_versions.proofs.checking.+are_sites_right.Given as goal

abbrev pub decreases-are_sites_right : goal.decreases-are_sites_right
decreases-are_sites_right l = length l.others.now
