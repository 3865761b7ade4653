use Rattle.cost_theory.proofs.Contexts as lemma
use Rattle.cost_theory.proofs.OrdersExist.{call_order, plain_order}
use Rattle.cost_theory.proofs.numbers.numbers_exist.Goals as goal

pub returns : goal.returns
returns c = λ g l extent w prog acc.
    lemma.numbers_exist g l extent w prog acc (plain_order g prog l extent acc).0 (plain_order g prog l extent acc).1.0 (plain_order g prog l extent acc).1.1 (call_order g prog).0 (call_order g prog).1
