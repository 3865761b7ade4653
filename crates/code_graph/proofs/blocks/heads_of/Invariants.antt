use Rattle.code_graph.specs.Assembling.{AreHeads}
use Rattle.code_graph.proofs.blocks.heads_of.Given as goal

abbrev pub invariant-loop-e : goal.invariant-loop-e
invariant-loop-e l = AreHeads l.e l.nodes.addresses.items l.nodes.owners.items l.functions l.lists.edges.items l.lists.firsts.items l.ends.sources.items l.ends.targets.items l.heads.items
