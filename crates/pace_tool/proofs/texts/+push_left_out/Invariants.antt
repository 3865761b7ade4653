use Rattle.std.proofs.Common.{length}
use Rattle.pace_tool.proofs.texts.+push_left_out.Given as goal

abbrev pub decreases-push_left_out : goal.decreases-push_left_out
decreases-push_left_out l = length l.endings.now
