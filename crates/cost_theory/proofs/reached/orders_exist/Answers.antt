use Rattle.cost_theory.proofs.OrdersExist.{call_order, plain_order}
use Rattle.cost_theory.proofs.reached.orders_exist.Goals as goal

pub returns-clause-of_calls : goal.returns-clause-of_calls
returns-clause-of_calls c = λ g prog. call_order g prog

pub returns-clause-of_plain_edges : goal.returns-clause-of_plain_edges
returns-clause-of_plain_edges c = λ g l extent prog acc. plain_order g prog l extent acc
