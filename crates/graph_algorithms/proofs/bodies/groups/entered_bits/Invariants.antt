use Rattle.std.proofs.Common.{◌≡◌, ℕ, ◌<◌, length, Some}
use Rattle.graph_algorithms.specs.Keys.{HasKey}
use Rattle.graph_algorithms.specs.Groups.{HasBit, IsFlagged, IsEnteredFrom}
use Rattle.graph_algorithms.proofs.EdgeLaws.{place}
use Rattle.graph_algorithms.proofs.EntryLaws.{IsPassedBy}
use Rattle.graph_algorithms.proofs.bodies.groups.entered_bits.Given as goal

abbrev pub invariant-loop-next : goal.invariant-loop-next
invariant-loop-next l = record {
  edge : (e : ℕ) → l.next ≡ Some e → (e < length l.edges.targets) × HasKey l.edges.targets e l.node;
  sound : (i : ℕ) → HasBit l.entered i → HasBit l.bits i × IsEnteredFrom l.edges l.bodies l.node i;
  passed : IsPassedBy l.edges.sources l.edges.targets l.node (λ v. (i : ℕ) → HasBit l.bits i → (IsFlagged l.bodies v i → ⊥) → HasBit l.entered i) l.next;
}

abbrev pub decreases-loop-next : goal.decreases-loop-next
decreases-loop-next l = place l.next
