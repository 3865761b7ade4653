use Rattle.paid_runs.proofs.Kept.{kept_patched}
use Rattle.paid_runs.proofs.marked.kept_runs_are_patched.Goals as goal

pub returns : goal.returns
returns c = kept_patched
