use Rattle.std.proofs.Common.{length}
use Rattle.scale_sites.proofs.edge_marks.+push_resets.Given as goal

abbrev pub decreases-push_resets : goal.decreases-push_resets
decreases-push_resets l = length l.rest.now
