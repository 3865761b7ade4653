use Rattle.jump_laws.proofs.Fixed.{fixed_stay}
use Rattle.jump_laws.proofs.fixed_words_stay.Goals as goal

pub returns : goal.returns
returns c = fixed_stay
