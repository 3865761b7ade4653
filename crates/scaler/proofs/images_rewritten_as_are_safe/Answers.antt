use Rattle.scaler.proofs.SafeAs.{safe}
use Rattle.scaler.proofs.images_rewritten_as_are_safe.Goals as goal

pub returns : goal.returns
returns c = safe
