use Rattle.std.proofs.Common.{◌≡◌, ℕ, ◌<◌, ◌≤◌, slice_get, Some}
use Rattle.plan_graphs.specs.declared.plan.DrawnEdge.{DrawnEdge}
use Rattle.plan_graphs.proofs.blocks.most_left.Given as goal

abbrev pub invariant-loop-edge : goal.invariant-loop-edge
invariant-loop-edge l = ((k : ℕ) (x : DrawnEdge) → k < l.edge-index → slice_get l.edges k ≡ Some x → x.left ≤ l.most)
    × ((k : ℕ) × (x : DrawnEdge) × (slice_get l.edges k ≡ Some x) × (x.left ≡ l.most))
