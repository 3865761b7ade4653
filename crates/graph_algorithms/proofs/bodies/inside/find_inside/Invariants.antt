use Rattle.graph_algorithms.proofs.InsideLaws.{AreSummed}
use Rattle.graph_algorithms.proofs.bodies.inside.find_inside.Given as goal

abbrev pub invariant-loop-node : goal.invariant-loop-node
invariant-loop-node l = AreSummed l.loops l.count l.node l.inside.items
