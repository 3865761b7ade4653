use Rattle.cost_theory.proofs.Law as lemma
use Rattle.cost_theory.proofs.numbers.worst_equation.Goals as goal

pub returns : goal.returns
returns c = λ g l extent w n is f lt. lemma.worst_equation g l extent w n is.program is.accepted is.weights is.numbers f lt
