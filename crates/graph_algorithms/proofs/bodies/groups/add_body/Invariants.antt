use Rattle.graph_algorithms.proofs.GroupLaws.{AreAdded}
use Rattle.graph_algorithms.proofs.bodies.groups.add_body.Given as goal

abbrev pub invariant-loop-node : goal.invariant-loop-node
invariant-loop-node l = AreAdded l.fn.words l.body l.bit l.node-index l.words
