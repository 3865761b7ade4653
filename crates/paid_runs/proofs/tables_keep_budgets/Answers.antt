use Rattle.paid_runs.proofs.Tables.{tables_keep_budgets}
use Rattle.paid_runs.proofs.tables_keep_budgets.Goals as goal

pub returns : goal.returns
returns c = tables_keep_budgets
