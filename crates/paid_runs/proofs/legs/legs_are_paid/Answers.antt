use Rattle.paid_runs.proofs.LegPrice.{leg_paid}
use Rattle.paid_runs.proofs.legs.legs_are_paid.Goals as goal

pub returns : goal.returns
returns c = leg_paid
