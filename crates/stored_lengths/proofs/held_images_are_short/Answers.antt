use Rattle.stored_lengths.proofs.Programs.{held_short}
use Rattle.stored_lengths.proofs.held_images_are_short.Goals as goal

pub returns : goal.returns
returns c = held_short
