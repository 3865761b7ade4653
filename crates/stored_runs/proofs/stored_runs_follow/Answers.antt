use Rattle.stored_runs.proofs.Follow.{stored_runs}
use Rattle.stored_runs.proofs.stored_runs_follow.Goals as goal

pub returns : goal.returns
returns c = stored_runs
