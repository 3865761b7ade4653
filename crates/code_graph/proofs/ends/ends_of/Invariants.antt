use Rattle.code_graph.specs.Assembling.{AreEnds}
use Rattle.code_graph.proofs.ends.ends_of.Given as goal

abbrev pub invariant-loop-edge : goal.invariant-loop-edge
invariant-loop-edge l = AreEnds l.edge-index l.nodes l.edges l.sources.items l.targets.items
