use Rattle.paid_runs.proofs.Shown.{counts_shown, counts_within}
use Rattle.paid_runs.proofs.marked.counts.counts_on_edges.Goals as goal

pub returns-clause-shown : goal.returns-clause-shown
returns-clause-shown c = counts_shown

pub returns-clause-within : goal.returns-clause-within
returns-clause-within c = counts_within
