use Rattle.std.proofs.Common.{length}
use Rattle.pace_tool.proofs.command.+run_want.Given as goal

abbrev pub decreases-run_want : goal.decreases-run_want
decreases-run_want l = length l.names.now
