use Rattle.gain_tuner.proofs.SafeTunings.{tuned_safe}
use Rattle.gain_tuner.proofs.agreeing.tuned_images_are_safe.Goals as goal

pub returns : goal.returns
returns c = tuned_safe
