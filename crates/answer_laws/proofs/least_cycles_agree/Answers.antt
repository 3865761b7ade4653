use Rattle.answer_laws.proofs.SameCharged.{charged_alike}
use Rattle.answer_laws.proofs.least_cycles_agree.Goals as goal

pub returns : goal.returns
returns c = charged_alike
