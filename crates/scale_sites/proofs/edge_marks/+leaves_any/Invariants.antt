use Rattle.std.proofs.Common.{length}
use Rattle.scale_sites.proofs.edge_marks.+leaves_any.Given as goal

abbrev pub decreases-leaves_any : goal.decreases-leaves_any
decreases-leaves_any l = length l.counted.now
