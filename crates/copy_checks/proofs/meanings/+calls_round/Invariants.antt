use Rattle.std.proofs.Common.{length}
use Rattle.copy_checks.proofs.meanings.+calls_round.Given as goal

abbrev pub decreases-calls_round : goal.decreases-calls_round
decreases-calls_round l = length l.pieces.now
