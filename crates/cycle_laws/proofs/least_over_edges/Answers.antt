use Rattle.cycle_laws.proofs.OneEdge.{return_over, exit_over, closing_over}
use Rattle.cycle_laws.proofs.least_over_edges.Goals as goal

pub returns-clause-to_return : goal.returns-clause-to_return
returns-clause-to_return c = return_over

pub returns-clause-to_exit : goal.returns-clause-to_exit
returns-clause-to_exit c = exit_over

pub returns-clause-closing : goal.returns-clause-closing
returns-clause-closing c = closing_over
