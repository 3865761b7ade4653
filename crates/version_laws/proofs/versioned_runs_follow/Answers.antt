use Rattle.version_laws.proofs.Law.{runs_follow}
use Rattle.version_laws.proofs.versioned_runs_follow.Goals as goal

pub returns : goal.returns
returns c = runs_follow
