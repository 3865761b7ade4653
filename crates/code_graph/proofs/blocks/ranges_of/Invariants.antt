use Rattle.code_graph.specs.Assembling.{AreStretches}
use Rattle.code_graph.proofs.blocks.ranges_of.Given as goal

abbrev pub invariant-loop-b : goal.invariant-loop-b
invariant-loop-b l = AreStretches l.b l.nodes l.starts l.blocks.items
