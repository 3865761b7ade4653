use Rattle.cost_theory.proofs.Orders.{no_loops-accepted}
use Rattle.cost_theory.proofs.reached.no_loops_are_accepted.Goals as goal

pub returns : goal.returns
returns c = λ g l extent count place none rises. no_loops-accepted g l extent count place none rises
