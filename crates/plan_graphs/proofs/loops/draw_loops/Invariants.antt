use Rattle.plan_graphs.specs.Drawn.{Told, AreDrawn, IsLoopDrawn}
use Rattle.plan_graphs.specs.Sketched.{Holds}
use Rattle.plan_graphs.proofs.loops.draw_loops.Given as goal

abbrev pub invariant-loop-l : goal.invariant-loop-l
invariant-loop-l l = (told : Told) → Holds l.sketch told → AreDrawn (IsLoopDrawn l.sketch.graph.now l.sketch.tree.now told) l.l l.loops.items
