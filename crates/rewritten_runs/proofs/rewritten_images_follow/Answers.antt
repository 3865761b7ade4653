use Rattle.rewritten_runs.proofs.Law.{rewritten_follow}
use Rattle.rewritten_runs.proofs.rewritten_images_follow.Goals as goal

pub returns : goal.returns
returns c = rewritten_follow
