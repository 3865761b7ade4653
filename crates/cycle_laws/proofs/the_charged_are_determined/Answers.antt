use Rattle.cycle_laws.proofs.Exist.{charged_exist}
use Rattle.cycle_laws.proofs.Alike.{charged_agree}
use Rattle.cycle_laws.proofs.the_charged_are_determined.Goals as goal

pub returns-clause-exist : goal.returns-clause-exist
returns-clause-exist c = charged_exist

pub returns-clause-agree : goal.returns-clause-agree
returns-clause-agree c = charged_agree
