use Rattle.paid_runs.proofs.Paid.{runs_within}
use Rattle.paid_runs.proofs.Tuned.{budgeted_safe, tuned_budgeted}
use Rattle.paid_runs.proofs.budgeted_runs_are_safe.Goals as goal

pub returns-clause-safe : goal.returns-clause-safe
returns-clause-safe c = budgeted_safe

pub returns-clause-tuned : goal.returns-clause-tuned
returns-clause-tuned c = tuned_budgeted

pub returns-clause-stored : goal.returns-clause-stored
returns-clause-stored c = runs_within
