use Rattle.scaler.proofs.agree.Rewrites.{rewritten_answers}
use Rattle.scaler.proofs.rewritten_answers_agree.Goals as goal

pub returns : goal.returns
returns c = rewritten_answers
