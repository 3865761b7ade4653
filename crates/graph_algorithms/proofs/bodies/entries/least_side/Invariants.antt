use Rattle.graph_algorithms.specs.Bodies.{IsLeastPair}
use Rattle.graph_algorithms.proofs.EntryLaws.{IsSideBelow}
use Rattle.graph_algorithms.proofs.bodies.entries.least_side.Given as goal

abbrev pub invariant-loop-node : goal.invariant-loop-node
invariant-loop-node l = IsLeastPair (IsSideBelow l.edges.sources l.edges.targets l.found l.header l.body l.node-index) l.least
