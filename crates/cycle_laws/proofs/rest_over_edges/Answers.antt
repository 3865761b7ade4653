use Rattle.cycle_laws.proofs.Iterations.{closing_over}
use Rattle.cycle_laws.proofs.rest_over_edges.Goals as goal

pub returns : goal.returns
returns c = closing_over
