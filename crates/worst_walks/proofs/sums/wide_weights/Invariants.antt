use Rattle.std.proofs.Common.{◌≡◌, ℕ, ◌<◌, length}
use Rattle.graph_algorithms.specs.Arcs.{number_in_place}
use Rattle.worst_cycles.specs.Worst.{by_edge}
use Rattle.worst_walks.proofs.sums.wide_weights.Given as goal

abbrev pub invariant-loop-e : goal.invariant-loop-e
invariant-loop-e l = record { size : length l.wide.items ≡ l.e; each : (d : ℕ) → d < l.e → number_in_place l.wide.items d ≡ by_edge l.weights d }
