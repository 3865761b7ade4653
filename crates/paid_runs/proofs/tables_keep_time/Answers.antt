use Rattle.paid_runs.proofs.Tables.{tables_of_keep_time}
use Rattle.paid_runs.proofs.tables_keep_time.Goals as goal

pub returns : goal.returns
returns c = tables_of_keep_time
