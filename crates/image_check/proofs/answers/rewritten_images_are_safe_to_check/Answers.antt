use Rattle.image_check.proofs.StoredSafe.{rewritten_safe}
use Rattle.image_check.proofs.answers.rewritten_images_are_safe_to_check.Goals as goal

pub returns : goal.returns
returns c = record { images = rewritten_safe }
