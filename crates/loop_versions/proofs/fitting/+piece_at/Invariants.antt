use Rattle.std.proofs.Common.{length}
use Rattle.loop_versions.proofs.fitting.+piece_at.Given as goal

abbrev pub decreases-piece_at : goal.decreases-piece_at
decreases-piece_at l = length l.pieces.now
