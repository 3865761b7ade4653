use Rattle.std.proofs.Common.{length}
use Rattle.scale_sites.proofs.edge_marks.+push_exits.Given as goal

abbrev pub decreases-push_exits : goal.decreases-push_exits
decreases-push_exits l = length l.rest.now
