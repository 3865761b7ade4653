use Rattle.cycle_laws.proofs.Within.{turn_within, charge_within, charge_worst, return_within}
use Rattle.cycle_laws.proofs.least_within_worst.Goals as goal

pub returns-clause-turn : goal.returns-clause-turn
returns-clause-turn c = turn_within

pub returns-clause-charge : goal.returns-clause-charge
returns-clause-charge c = charge_within

pub returns-clause-to_return : goal.returns-clause-to_return
returns-clause-to_return c = return_within

pub returns-clause-within : goal.returns-clause-within
returns-clause-within c = charge_worst
