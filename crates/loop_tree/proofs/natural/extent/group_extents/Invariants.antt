use Rattle.loop_tree.specs.Passes.{AreExtents}
use Rattle.loop_tree.proofs.natural.extent.group_extents.Given as goal

abbrev pub invariant-loop-k : goal.invariant-loop-k
invariant-loop-k l = AreExtents l.noted.graph.now l.noted.notes.now l.noted.headers.now l.fn.numbers.first l.k l.loops.items
