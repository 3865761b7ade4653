use Rattle.plan_graphs.specs.Drawn.{Told, AreDrawn, IsFunctionDrawn}
use Rattle.plan_graphs.specs.Sketched.{Holds}
use Rattle.plan_graphs.proofs.functions.draw_functions.Given as goal

abbrev pub invariant-loop-f : goal.invariant-loop-f
invariant-loop-f l = (told : Told) → Holds l.sketch told → AreDrawn (IsFunctionDrawn l.sketch.graph.now told) l.f l.functions.items
