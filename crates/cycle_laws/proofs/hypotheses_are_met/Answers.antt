use Rattle.cycle_laws.proofs.Example.{small_met}
use Rattle.cycle_laws.proofs.hypotheses_are_met.Goals as goal

pub returns : goal.returns
returns c = small_met
