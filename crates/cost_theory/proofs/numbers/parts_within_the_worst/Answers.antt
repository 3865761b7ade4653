use Rattle.cost_theory.proofs.Orders.{function-worst, left-worst, turns-worst}
use Rattle.cost_theory.proofs.Rest.{rest-worst}
use Rattle.cost_theory.proofs.OrdersExist.{call_order}
use Rattle.cost_theory.proofs.numbers.parts_within_the_worst.Goals as goal

pub returns-clause-function : goal.returns-clause-function
returns-clause-function c = λ g l extent w n is. function-worst g l extent w n is.program is.accepted is.weights is.numbers (call_order g is.program).0 (call_order g is.program).1

pub returns-clause-node : goal.returns-clause-node
returns-clause-node c = λ g l extent w n is. left-worst g l extent w n is.program is.accepted is.weights is.numbers (call_order g is.program).0 (call_order g is.program).1

pub returns-clause-turns : goal.returns-clause-turns
returns-clause-turns c = λ g l extent w n is. turns-worst g l extent w n is.program is.accepted is.weights is.numbers (call_order g is.program).0 (call_order g is.program).1

pub returns-clause-rest : goal.returns-clause-rest
returns-clause-rest c = λ g l extent w n is. rest-worst g l extent w n is.program is.accepted is.weights is.numbers (call_order g is.program).0 (call_order g is.program).1
