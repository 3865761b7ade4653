use Rattle.stack_laws.proofs.Tidy.{certain_tidy}
use Rattle.stack_laws.proofs.certain_runs_are_tidy.Goals as goal

pub returns : goal.returns
returns c = certain_tidy
