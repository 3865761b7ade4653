use Rattle.stored_lengths.proofs.Programs.{rewritten_as_short}
use Rattle.stored_lengths.proofs.images_rewritten_as_are_short.Goals as goal

pub returns : goal.returns
returns c = rewritten_as_short
