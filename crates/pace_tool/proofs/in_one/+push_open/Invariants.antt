use Rattle.std.proofs.Common.{length}
use Rattle.pace_tool.proofs.in_one.+push_open.Given as goal

abbrev pub decreases-push_open : goal.decreases-push_open
decreases-push_open l = length l.pieces.now
