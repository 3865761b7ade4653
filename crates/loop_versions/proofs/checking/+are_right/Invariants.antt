use Rattle.std.proofs.Common.{length}
use Rattle.loop_versions.proofs.checking.+are_right.Given as goal

abbrev pub decreases-are_right : goal.decreases-are_right
decreases-are_right l = length l.others.now
