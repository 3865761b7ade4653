use Rattle.image_check.proofs.Agreed.{checked_answers}
use Rattle.image_check.proofs.answers.checked_answers_agree.Goals as goal

pub returns : goal.returns
returns c = checked_answers
