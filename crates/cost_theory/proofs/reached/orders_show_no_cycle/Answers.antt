use Rattle.cost_theory.proofs.Orders.{order-no_recursion, order-no_cycle}
use Rattle.cost_theory.proofs.reached.orders_show_no_cycle.Goals as goal

pub returns-clause-of_calls : goal.returns-clause-of_calls
returns-clause-of_calls c = λ g order falls. order-no_recursion g order falls

pub returns-clause-of_plain_edges : goal.returns-clause-of_plain_edges
returns-clause-of_plain_edges c = λ g l count place rises. order-no_cycle g l count place rises
