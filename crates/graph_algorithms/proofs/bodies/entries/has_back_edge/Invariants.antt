use Rattle.std.proofs.Common.{◌≡◌, ℕ, ◌<◌, true, length, Some}
use Rattle.graph_algorithms.specs.Keys.{HasKey}
use Rattle.graph_algorithms.specs.Bodies.{in_node_ranges}
use Rattle.graph_algorithms.proofs.EdgeLaws.{place}
use Rattle.graph_algorithms.proofs.EntryLaws.{IsPassedBy}
use Rattle.graph_algorithms.proofs.bodies.entries.has_back_edge.Given as goal

abbrev pub invariant-loop-next : goal.invariant-loop-next
invariant-loop-next l = record {
  edge : (e : ℕ) → l.next ≡ Some e → (e < length l.edges.targets) × HasKey l.edges.targets e l.header;
  passed : IsPassedBy l.edges.sources l.edges.targets l.header (λ v. in_node_ranges l.extent v ≡ true → ⊥) l.next;
}

abbrev pub decreases-loop-next : goal.decreases-loop-next
decreases-loop-next l = place l.next
