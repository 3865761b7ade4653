use Rattle.std.proofs.Common.{◌≡◌, ◌≤◌, take}
use Rattle.std.specs.List.{count_by}
use Rattle.plan_graphs.specs.declared.plan.DrawnEdge.{DrawnEdge}
use Rattle.plan_texts.specs.Counts as counts
use Rattle.plan_texts.proofs.counts.between.Given as goal

abbrev pub invariant-loop-edge : goal.invariant-loop-edge
invariant-loop-edge l = (l.count ≡ count_by (λ (e : DrawnEdge). counts.is_to_block e.leads) (take l.edge-index l.edges)) × (l.count ≤ l.edge-index)
