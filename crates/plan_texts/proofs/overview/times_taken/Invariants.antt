use Rattle.std.proofs.Common.{◌≡◌, ◌*◌, ◌≤◌, take}
use Rattle.std.specs.List.{sum_by}
use Rattle.plan_graphs.specs.declared.plan.DrawnEdge.{DrawnEdge}
use Rattle.plan_texts.proofs.overview.times_taken.Given as goal

abbrev pub invariant-loop-edge : goal.invariant-loop-edge
invariant-loop-edge l = (l.times ≡ sum_by (λ (e : DrawnEdge). e.taken) (take l.edge-index l.edges)) × (l.times ≤ l.edge-index * 18446744073709551615)
