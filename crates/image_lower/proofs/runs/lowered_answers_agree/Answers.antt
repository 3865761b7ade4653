use Rattle.image_lower.proofs.SafeLowered.{answers}
use Rattle.image_lower.proofs.runs.lowered_answers_agree.Goals as goal

pub returns : goal.returns
returns c = answers
