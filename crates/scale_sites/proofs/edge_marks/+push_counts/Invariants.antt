use Rattle.std.proofs.Common.{length}
use Rattle.scale_sites.proofs.edge_marks.+push_counts.Given as goal

abbrev pub decreases-push_counts : goal.decreases-push_counts
decreases-push_counts l = length l.rest.now
