use Rattle.bound_laws.proofs.Effects.{steps_leave, steps_add}
use Rattle.bound_laws.proofs.steps_change_registers.Goals as goal

pub returns-clause-leaves : goal.returns-clause-leaves
returns-clause-leaves c = steps_leave

pub returns-clause-adds : goal.returns-clause-adds
returns-clause-adds c = steps_add
