use Rattle.scaler.proofs.Safe.{safe}
use Rattle.scaler.proofs.held_images_are_safe.Goals as goal

pub returns : goal.returns
returns c = safe
