use Rattle.paid_runs.proofs.Paid.{stubs_bounded}
use Rattle.paid_runs.proofs.stubs_are_bounded.Goals as goal

pub returns : goal.returns
returns c = stubs_bounded
