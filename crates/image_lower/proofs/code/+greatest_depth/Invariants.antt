use Rattle.std.proofs.Common.{length}
use Rattle.image_lower.proofs.code.+greatest_depth.Given as goal

abbrev pub decreases-greatest_depth : goal.decreases-greatest_depth
decreases-greatest_depth l = length l.notes.now
