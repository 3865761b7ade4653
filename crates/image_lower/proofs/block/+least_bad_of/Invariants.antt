use Rattle.std.proofs.Common.{length}
use Rattle.image_lower.proofs.block.+least_bad_of.Given as goal

abbrev pub decreases-least_bad_of : goal.decreases-least_bad_of
decreases-least_bad_of l = length l.some.now
