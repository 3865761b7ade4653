use Rattle.paid_runs.proofs.Kept.{stored_cost, extra_cost}
use Rattle.paid_runs.proofs.marked.transitions_cost_stored_weights.Goals as goal

pub returns-clause-stored : goal.returns-clause-stored
returns-clause-stored c = stored_cost

pub returns-clause-extra : goal.returns-clause-extra
returns-clause-extra c = extra_cost
