use Rattle.plan_graphs.specs.Drawn.{Told, AreDrawn, IsBlockDrawn}
use Rattle.plan_graphs.specs.Sketched.{Holds}
use Rattle.plan_graphs.proofs.blocks.draw_blocks.Given as goal

abbrev pub invariant-loop-b : goal.invariant-loop-b
invariant-loop-b l = (told : Told) → Holds l.sketch told → AreDrawn (IsBlockDrawn l.sketch.graph.now l.sketch.tree.now told) l.b l.blocks.items
