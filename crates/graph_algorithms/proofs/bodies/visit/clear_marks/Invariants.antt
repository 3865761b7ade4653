use Rattle.graph_algorithms.proofs.BodyLaws.{AreLeft}
use Rattle.graph_algorithms.proofs.bodies.visit.clear_marks.Given as goal

abbrev pub invariant-loop-node : goal.invariant-loop-node
invariant-loop-node l = AreLeft l.found l.body l.node-index
