use Rattle.scaler.proofs.agree.Helds.{held_answers}
use Rattle.scaler.proofs.held_answers_agree.Goals as goal

pub returns : goal.returns
returns c = held_answers
