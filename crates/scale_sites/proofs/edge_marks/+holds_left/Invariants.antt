use Rattle.std.proofs.Common.{length}
use Rattle.scale_sites.proofs.edge_marks.+holds_left.Given as goal

abbrev pub decreases-holds_left : goal.decreases-holds_left
decreases-holds_left l = length l.counted.now
