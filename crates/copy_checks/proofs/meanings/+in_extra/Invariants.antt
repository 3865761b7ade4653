use Rattle.std.proofs.Common.{length}
use Rattle.copy_checks.proofs.meanings.+in_extra.Given as goal

abbrev pub decreases-in_extra : goal.decreases-in_extra
decreases-in_extra l = length l.pieces.now
