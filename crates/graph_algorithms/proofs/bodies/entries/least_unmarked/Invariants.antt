use Rattle.std.proofs.Common.{◌≡◌, ℕ, ◌<◌, length, Some}
use Rattle.graph_algorithms.specs.Keys.{HasKey}
use Rattle.graph_algorithms.proofs.EdgeLaws.{place}
use Rattle.graph_algorithms.proofs.EntryLaws.{IsPassedBy, IsOver, IsUnmarkedSource}
use Rattle.graph_algorithms.proofs.bodies.entries.least_unmarked.Given as goal

abbrev pub invariant-loop-next : goal.invariant-loop-next
invariant-loop-next l = record {
  edge : (e : ℕ) → l.next ≡ Some e → (e < length l.edges.targets) × HasKey l.edges.targets e l.node;
  source : IsUnmarkedSource l.edges.sources l.edges.targets l.found l.node l.least;
  passed : IsPassedBy l.edges.sources l.edges.targets l.node (IsOver l.found l.least) l.next;
}

abbrev pub decreases-loop-next : goal.decreases-loop-next
decreases-loop-next l = place l.next
