use Rattle.std.proofs.Common.{length}
use Rattle.versioned_images.proofs.finding.+first_choice.Given as goal

abbrev pub decreases-first_choice : goal.decreases-first_choice
decreases-first_choice l = length l.pieces.now
