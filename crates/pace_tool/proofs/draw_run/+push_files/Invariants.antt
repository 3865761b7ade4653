use Rattle.std.proofs.Common.{length}
use Rattle.pace_tool.proofs.draw_run.+push_files.Given as goal

abbrev pub decreases-push_files : goal.decreases-push_files
decreases-push_files l = length l.names.now
