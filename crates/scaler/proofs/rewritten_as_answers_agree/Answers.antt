use Rattle.scaler.proofs.agree.Rewrites.{rewritten_as_answers}
use Rattle.scaler.proofs.rewritten_as_answers_agree.Goals as goal

pub returns : goal.returns
returns c = rewritten_as_answers
