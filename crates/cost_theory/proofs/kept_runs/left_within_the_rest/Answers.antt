use Rattle.cost_theory.proofs.StepLaws.{along-rest, along-turns, return-rest}
use Rattle.cost_theory.proofs.OrdersExist.{call_order}
use Rattle.cost_theory.proofs.kept_runs.left_within_the_rest.Goals as goal

pub returns-clause-along : goal.returns-clause-along
returns-clause-along c = λ g l extent w n is. along-rest g l extent w n is (call_order g is.program).0 (call_order g is.program).1

pub returns-clause-turns : goal.returns-clause-turns
returns-clause-turns c = λ g l extent w n is. along-turns g l extent w n is (call_order g is.program).0 (call_order g is.program).1

pub returns-clause-back : goal.returns-clause-back
returns-clause-back c = λ g l extent w n is. return-rest g l extent w n is (call_order g is.program).0 (call_order g is.program).1
