use Rattle.answer_laws.proofs.Alike.{numbers_alike}
use Rattle.answer_laws.proofs.numbers_agree.Goals as goal

pub returns : goal.returns
returns c = numbers_alike
