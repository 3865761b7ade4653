use Rattle.cost_theory.proofs.Agreeing.{one_graph}
use Rattle.cost_theory.proofs.reached.graphs_agree.Goals as goal

pub returns : goal.returns
returns c = λ word word' code same. one_graph word word' code same
