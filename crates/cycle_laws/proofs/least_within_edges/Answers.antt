use Rattle.cycle_laws.proofs.LeastRuns.{within_edges}
use Rattle.cycle_laws.proofs.Ends.{end_within}
use Rattle.cycle_laws.proofs.least_within_edges.Goals as goal

pub returns-clause-run : goal.returns-clause-run
returns-clause-run c = within_edges

pub returns-clause-end : goal.returns-clause-end
returns-clause-end c = end_within
