use Rattle.std.proofs.Common.{◌≡◌, ℕ, ◌<◌, length}
use Rattle.graph_algorithms.specs.Arcs.{number_in_place}
use Rattle.worst_cycles.specs.Visits.{visit_at}
use Rattle.worst_cycles.proofs.lefts.plain_lefts.Given as goal

abbrev pub invariant-loop-visit : goal.invariant-loop-visit
invariant-loop-visit l = record {
  size : length l.left.items ≡ l.visit-index;
  each : (k : ℕ) → k < l.visit-index → number_in_place l.left.items k ≡ (visit_at l.visits k).plain;
}
