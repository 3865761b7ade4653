use Rattle.stored_laws.proofs.Whole.{law}
use Rattle.stored_laws.proofs.stored_is_an_image.Goals as goal

pub returns : goal.returns
returns c = law
