use Rattle.std.proofs.Common.{◌≡◌, ℕ, ◌+◌, ◌<◌, length}
use Rattle.graph_algorithms.specs.Arcs.{number_in_place}
use Rattle.worst_cycles.specs.Visits.{visit_at}
use Rattle.worst_cycles.proofs.found.worst_of.Given as goal

abbrev pub invariant-loop-k : goal.invariant-loop-k
invariant-loop-k l = record {
  size : length l.worst.items ≡ l.k-index;
  each : (f : ℕ) → f < l.k-index → number_in_place l.worst.items f ≡ (visit_at l.visits (number_in_place l.entries f)).plain + (visit_at l.visits (number_in_place l.entries f)).turns;
}
