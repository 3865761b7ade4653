use Rattle.stored_lengths.proofs.Programs.{rewritten_short}
use Rattle.stored_lengths.proofs.rewritten_images_are_short.Goals as goal

pub returns : goal.returns
returns c = rewritten_short
