use Rattle.cost_theory.proofs.Overruns.{iteration-worst, closing-worst}
use Rattle.cost_theory.proofs.OrdersExist.{call_order}
use Rattle.cost_theory.proofs.numbers.iterations_near_the_worst.Goals as goal

pub returns-clause-whole : goal.returns-clause-whole
returns-clause-whole c = λ g l extent w n is most small. iteration-worst g l extent w n is most small (call_order g is.program).0 (call_order g is.program).1

pub returns-clause-rest : goal.returns-clause-rest
returns-clause-rest c = λ g l extent w n is most small. closing-worst g l extent w n is most small (call_order g is.program).0 (call_order g is.program).1
