use Rattle.paid_runs.proofs.Kept.{kept_followed, stays_in_text}
use Rattle.paid_runs.proofs.marked.kept_runs_are_followed.Goals as goal

pub returns-clause-followed : goal.returns-clause-followed
returns-clause-followed c = kept_followed

pub returns-clause-text : goal.returns-clause-text
returns-clause-text c = stays_in_text
