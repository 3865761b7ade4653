use Rattle.std.proofs.Common.{◌≡◌, ◌≤◌, length, take, nat_eq}
use Rattle.std.specs.Prelude.{not}
use Rattle.std.specs.List.{count_by}
use Rattle.plan_graphs.specs.declared.plan.DrawnEdge.{DrawnEdge}
use Rattle.plan_texts.proofs.counts.marked.Given as goal

abbrev pub invariant-loop-edge : goal.invariant-loop-edge
invariant-loop-edge l = (l.count ≡ count_by (λ (e : DrawnEdge). not (nat_eq (length e.marks.items) 0)) (take l.edge-index l.edges)) × (l.count ≤ l.edge-index)
