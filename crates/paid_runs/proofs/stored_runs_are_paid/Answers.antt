use Rattle.paid_runs.proofs.Paid.{runs_paid, energy_saved}
use Rattle.paid_runs.proofs.stored_runs_are_paid.Goals as goal

pub returns-clause-paid : goal.returns-clause-paid
returns-clause-paid c = runs_paid

pub returns-clause-energy : goal.returns-clause-energy
returns-clause-energy c = energy_saved
