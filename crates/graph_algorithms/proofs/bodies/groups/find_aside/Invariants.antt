use Rattle.graph_algorithms.proofs.GroupLaws.{AreAsideBelow}
use Rattle.graph_algorithms.proofs.bodies.groups.find_aside.Given as goal

abbrev pub invariant-loop-node : goal.invariant-loop-node
invariant-loop-node l = AreAsideBelow l.edges l.bodies l.headers l.node l.aside
