use Rattle.graph_algorithms.specs.Groups.{AreLoopExtents}
use Rattle.graph_tests.proofs.bodies.loops_of.Given as goal

abbrev pub invariant-loop-header : goal.invariant-loop-header
invariant-loop-header l = AreLoopExtents l.count l.loops.items
