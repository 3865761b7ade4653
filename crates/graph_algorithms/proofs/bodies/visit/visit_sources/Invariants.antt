use Rattle.std.proofs.Common.{◌≡◌, ℕ, ◌<◌, true, length, ◌⊎◌, Some}
use Rattle.std.specs.Prelude.{slice_get}
use Rattle.graph_algorithms.specs.Keys.{HasKey}
use Rattle.graph_algorithms.specs.Bodies.{HasEdge, in_node_ranges}
use Rattle.graph_algorithms.specs.BodySearch.{IsMarkedBody, BodyGrows}
use Rattle.graph_algorithms.proofs.EdgeLaws.{ArePassed, place}
use Rattle.graph_algorithms.proofs.bodies.visit.visit_sources.Given as goal

abbrev pub invariant-loop-next : goal.invariant-loop-next
invariant-loop-next l = record {
  size : length l.found ≡ l.edges.count;
  marked : IsMarkedBody l.found l.body.items;
  grows : BodyGrows l.fn.found l.fn.body.items l.found l.body.items;
  only : (p v : ℕ) → slice_get l.body.items p ≡ Some v → (slice_get l.fn.body.items p ≡ Some v) ⊎ (HasEdge l.edges.sources l.edges.targets v l.node × (in_node_ranges l.extent v ≡ true));
  edge : (e : ℕ) → l.next ≡ Some e → (e < length l.edges.targets) × HasKey l.edges.targets e l.node;
  passed : ArePassed l.edges.sources l.edges.targets (in_node_ranges l.extent) l.found l.node l.next;
}

abbrev pub decreases-loop-next : goal.decreases-loop-next
decreases-loop-next l = place l.next
