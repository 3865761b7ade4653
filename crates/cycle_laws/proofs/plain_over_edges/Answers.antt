use Rattle.cycle_laws.proofs.PlainPaths.{plain_over}
use Rattle.cycle_laws.proofs.plain_over_edges.Goals as goal

pub returns : goal.returns
returns c = plain_over
