use Rattle.image_check.proofs.Loaded.{loaded_small}
use Rattle.image_check.proofs.loaded_bytes_are_small.Goals as goal

pub returns : goal.returns
returns c = loaded_small
