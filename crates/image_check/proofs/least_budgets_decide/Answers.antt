use Rattle.image_check.proofs.PacedChecks.{least_decide}
use Rattle.image_check.proofs.least_budgets_decide.Goals as goal

pub returns : goal.returns
returns c = least_decide
