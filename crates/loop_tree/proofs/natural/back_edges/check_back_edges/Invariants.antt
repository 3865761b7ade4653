use Rattle.loop_tree.proofs.ReadyLaws.{HaveBackEdges}
use Rattle.loop_tree.proofs.natural.back_edges.check_back_edges.Given as goal

abbrev pub invariant-loop-k : goal.invariant-loop-k
invariant-loop-k l = HaveBackEdges l.graph l.notes l.k
