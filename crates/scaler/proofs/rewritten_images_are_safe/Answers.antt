use Rattle.scaler.proofs.SafeRewritten.{safe}
use Rattle.scaler.proofs.rewritten_images_are_safe.Goals as goal

pub returns : goal.returns
returns c = safe
