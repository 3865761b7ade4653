use Rattle.std.proofs.Common.{◌≡◌, ◌+◌, length}
use Rattle.plan_graphs.specs.Drawn.{Told, AreDrawn, IsEdgeDrawn}
use Rattle.plan_graphs.specs.Sketched.{Holds}
use Rattle.plan_graphs.proofs.edges.draw_edges.Given as goal

abbrev pub invariant-loop-e : goal.invariant-loop-e
invariant-loop-e l = (l.first + length l.edges.items ≡ l.e)
    × ((told : Told) → Holds l.sketch told → AreDrawn (λ k. IsEdgeDrawn l.sketch.graph.now l.sketch.tree.now told (l.first + k)) (length l.edges.items) l.edges.items)
