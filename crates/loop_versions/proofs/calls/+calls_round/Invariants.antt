use Rattle.std.proofs.Common.{length}
use Rattle.loop_versions.proofs.calls.+calls_round.Given as goal

abbrev pub decreases-calls_round : goal.decreases-calls_round
decreases-calls_round l = length l.pieces.now
