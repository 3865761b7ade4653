use Rattle.gain_tuner.proofs.SameTunings.{tuned_answers}
use Rattle.gain_tuner.proofs.agreeing.tunings_agree.Goals as goal

pub returns : goal.returns
returns c = tuned_answers
