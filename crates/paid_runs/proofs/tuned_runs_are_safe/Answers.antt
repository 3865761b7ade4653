use Rattle.paid_runs.proofs.Tuned.{tuned_safe}
use Rattle.paid_runs.proofs.tuned_runs_are_safe.Goals as goal

pub returns : goal.returns
returns c = tuned_safe
