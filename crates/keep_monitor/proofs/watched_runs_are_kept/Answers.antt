use Rattle.keep_monitor.proofs.RunLaws.{watched_is_kept}
use Rattle.keep_monitor.proofs.watched_runs_are_kept.Goals as goal

pub returns : goal.returns
returns c = watched_is_kept
