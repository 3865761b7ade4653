use Rattle.std.proofs.Common.{◌≡◌, ℕ, ◌<◌, length, Some}
use Rattle.graph_algorithms.specs.Keys.{HasKey}
use Rattle.graph_algorithms.specs.Groups.{IsFlagged, Gains, IsPassedOn, IsPassedBack}
use Rattle.graph_algorithms.proofs.EdgeLaws.{place}
use Rattle.graph_algorithms.proofs.EntryLaws.{IsPassedBy}
use Rattle.graph_algorithms.proofs.bodies.sweep.pass_back.Given as goal

abbrev pub invariant-loop-next : goal.invariant-loop-next
invariant-loop-next l = record {
  gains : Gains (IsPassedBack l.edges l.inside l.passed.bits l.passed.node) l.fn.found l.fn.pending l.found l.pending;
  edge : (e : ℕ) → l.next ≡ Some e → (e < length l.edges.targets) × HasKey l.edges.targets e l.passed.node;
  passed : IsPassedBy l.edges.sources l.edges.targets l.passed.node (λ v. (i : ℕ) → IsPassedOn l.inside l.passed.bits v i → IsFlagged l.found v i) l.next;
}

abbrev pub decreases-loop-next : goal.decreases-loop-next
decreases-loop-next l = place l.next
