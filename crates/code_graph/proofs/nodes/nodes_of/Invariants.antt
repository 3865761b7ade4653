use Rattle.code_graph.specs.Finding.{reach_of}
use Rattle.code_graph.specs.Assembling.{AreReachedNodes}
use Rattle.code_graph.proofs.nodes.nodes_of.Given as goal

abbrev pub invariant-loop-k : goal.invariant-loop-k
invariant-loop-k l = AreReachedNodes (reach_of l.reach) l.k l.addresses.items l.kinds.items l.owners.items
