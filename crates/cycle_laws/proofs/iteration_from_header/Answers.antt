use Rattle.cycle_laws.proofs.Iterations.{iteration_closing}
use Rattle.cycle_laws.proofs.iteration_from_header.Goals as goal

pub returns : goal.returns
returns c = iteration_closing
