use Rattle.cycle_laws.proofs.Charges.{charged_on, charged_back, charged_into}
use Rattle.cycle_laws.proofs.edges_are_charged.Goals as goal

pub returns-clause-on : goal.returns-clause-on
returns-clause-on c = charged_on

pub returns-clause-back : goal.returns-clause-back
returns-clause-back c = charged_back

pub returns-clause-into : goal.returns-clause-into
returns-clause-into c = charged_into
