use Rattle.std.proofs.Common.{length}
use Rattle.paced_images.proofs.useful.+has_site_mark.Given as goal

abbrev pub decreases-has_site_mark : goal.decreases-has_site_mark
decreases-has_site_mark l = length l.marks.now
