use Rattle.machine_laws.proofs.RegisterLaws.{run_length, run_zero}
use Rattle.machine_laws.proofs.runs.registers_along_runs.Goals as goal

pub returns-clause-number : goal.returns-clause-number
returns-clause-number c = run_length

pub returns-clause-zero : goal.returns-clause-zero
returns-clause-zero c = run_zero
