use Rattle.stack_laws.proofs.Runs.{stack_values_hold}
use Rattle.stack_laws.proofs.Restoring.{restored_registers_hold}
use Rattle.stack_laws.proofs.stack_values_hold.Goals as goal

pub returns-clause-values : goal.returns-clause-values
returns-clause-values c = stack_values_hold

pub returns-clause-restored : goal.returns-clause-restored
returns-clause-restored c = restored_registers_hold
