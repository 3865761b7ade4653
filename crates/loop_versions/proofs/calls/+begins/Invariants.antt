use Rattle.std.proofs.Common.{length}
use Rattle.loop_versions.proofs.calls.+begins.Given as goal

abbrev pub decreases-begins : goal.decreases-begins
decreases-begins l = length l.xs.now
