use Rattle.std.proofs.Common.{length}
use Rattle.loop_versions.proofs.checking.+are_sites_free.Given as goal

abbrev pub decreases-are_sites_free : goal.decreases-are_sites_free
decreases-are_sites_free l = length l.others.now
