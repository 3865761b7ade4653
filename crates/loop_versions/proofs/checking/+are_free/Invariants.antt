use Rattle.std.proofs.Common.{length}
use Rattle.loop_versions.proofs.checking.+are_free.Given as goal

abbrev pub decreases-are_free : goal.decreases-are_free
decreases-are_free l = length l.others.now
