use Rattle.version_laws.proofs.Exits.{stay_outside, runs_exit}
use Rattle.version_laws.proofs.versioned_runs_exit.Goals as goal

pub returns-clause-outside : goal.returns-clause-outside
returns-clause-outside c = stay_outside

pub returns-clause-alike : goal.returns-clause-alike
returns-clause-alike c = runs_exit
