use Rattle.std.proofs.Common.{take}
use Rattle.graph_algorithms.specs.BodySearch.{IsMarkedBody}
use Rattle.graph_algorithms.proofs.bodies.entries.mark_nodes.Given as goal

abbrev pub invariant-loop-node : goal.invariant-loop-node
invariant-loop-node l = IsMarkedBody l.found (take l.node-index l.body)
