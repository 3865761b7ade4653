use Rattle.rewritten_runs.proofs.Law.{budgeted_follow, chosen_follow}
use Rattle.rewritten_runs.proofs.budgeted_images_follow.Goals as goal

pub returns-clause-budgeted : goal.returns-clause-budgeted
returns-clause-budgeted c = budgeted_follow

pub returns-clause-chosen : goal.returns-clause-chosen
returns-clause-chosen c = chosen_follow
