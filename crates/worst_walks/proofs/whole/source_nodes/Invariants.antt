use Rattle.std.proofs.Common.{◌≡◌, ℕ, ◌<◌, length}
use Rattle.worst_walks.specs.Tallies.{key_at}
use Rattle.worst_walks.specs.Whole.{IsSourceKey}
use Rattle.worst_walks.proofs.whole.source_nodes.Given as goal

abbrev pub invariant-loop-e : goal.invariant-loop-e
invariant-loop-e l = record { size : length l.nodes.items ≡ l.e; each : (d : ℕ) → d < l.e → IsSourceKey l.graph d (key_at l.nodes.items d) }
