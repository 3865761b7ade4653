use Rattle.cost_theory.proofs.Unique.{same_numbers}
use Rattle.cost_theory.proofs.OrdersExist.{call_order}
use Rattle.cost_theory.proofs.numbers.numbers_are_determined.Goals as goal

pub returns : goal.returns
returns c = λ g l extent w n n' prog acc nums nums'. same_numbers g l extent prog acc w (call_order g prog).0 (call_order g prog).1 n n' nums nums'
