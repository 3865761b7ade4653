use Rattle.image_lower.proofs.LoweredLaw.{runs_follow}
use Rattle.image_lower.proofs.runs.lowered_runs_follow.Goals as goal

pub returns : goal.returns
returns c = runs_follow
