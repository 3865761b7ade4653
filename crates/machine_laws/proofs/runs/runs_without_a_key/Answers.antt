use Rattle.machine_laws.proofs.KeylessRuns.{run_without_port, run_without_key}
use Rattle.machine_laws.proofs.runs.runs_without_a_key.Goals as goal

pub returns-clause-no_port : goal.returns-clause-no_port
returns-clause-no_port c = run_without_port

pub returns-clause-no_key : goal.returns-clause-no_key
returns-clause-no_key c = run_without_key
