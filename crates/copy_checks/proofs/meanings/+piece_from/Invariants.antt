use Rattle.std.proofs.Common.{length}
use Rattle.copy_checks.proofs.meanings.+piece_from.Given as goal

abbrev pub decreases-piece_from : goal.decreases-piece_from
decreases-piece_from l = length l.pieces.now
