use Rattle.cycle_laws.proofs.OneEdge.{stable_least}
use Rattle.cycle_laws.proofs.stable_is_least.Goals as goal

pub returns : goal.returns
returns c = stable_least
