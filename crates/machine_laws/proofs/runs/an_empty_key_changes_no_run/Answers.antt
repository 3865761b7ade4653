use Rattle.machine_laws.proofs.EmptyKey.{run_same}
use Rattle.machine_laws.proofs.runs.an_empty_key_changes_no_run.Goals as goal

pub returns : goal.returns
returns c = record { same_run = run_same }
