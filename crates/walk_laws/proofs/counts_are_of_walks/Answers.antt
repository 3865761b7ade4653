use Rattle.walk_laws.proofs.Balance.{counts_are}
use Rattle.walk_laws.proofs.counts_are_of_walks.Goals as goal

pub returns : goal.returns
returns c = counts_are
