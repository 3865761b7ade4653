use Rattle.cost_theory.proofs.Agreeing.{edge_node}
use Rattle.cost_theory.proofs.reached.edges_start_at_nodes.Goals as goal

pub returns : goal.returns
returns c = λ word first code is i e at. edge_node word first code is i e at
