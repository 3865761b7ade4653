use Rattle.check_laws.proofs.PassedOnly.{only_yes}
use Rattle.check_laws.proofs.rewritten_images_pass.Goals as goal

pub returns : goal.returns
returns c = only_yes
