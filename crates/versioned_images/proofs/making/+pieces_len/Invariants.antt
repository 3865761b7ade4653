use Rattle.std.proofs.Common.{length}
use Rattle.versioned_images.proofs.making.+pieces_len.Given as goal

abbrev pub decreases-pieces_len : goal.decreases-pieces_len
decreases-pieces_len l = length l.pieces.now
