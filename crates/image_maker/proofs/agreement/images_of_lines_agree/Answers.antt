use Rattle.image_maker.proofs.OneImage.{one_image}
use Rattle.image_maker.proofs.agreement.images_of_lines_agree.Goals as goal

pub returns : goal.returns
returns c = one_image
