use Rattle.stored_lengths.proofs.Programs.{tuned_short}
use Rattle.stored_lengths.proofs.tuned_images_are_short.Goals as goal

pub returns : goal.returns
returns c = tuned_short
