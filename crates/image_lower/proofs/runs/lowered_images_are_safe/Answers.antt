use Rattle.image_lower.proofs.SafeLowered.{safe}
use Rattle.image_lower.proofs.runs.lowered_images_are_safe.Goals as goal

pub returns : goal.returns
returns c = safe
