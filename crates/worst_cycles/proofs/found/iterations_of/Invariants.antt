use Rattle.std.proofs.Common.{◌≡◌, ℕ, ◌<◌, length}
use Rattle.graph_algorithms.specs.Arcs.{number_in_place}
use Rattle.worst_cycles.specs.Visits.{visit_at}
use Rattle.worst_cycles.proofs.found.iterations_of.Given as goal

abbrev pub invariant-loop-l : goal.invariant-loop-l
invariant-loop-l l = record {
  size : length l.iterations.items ≡ l.l;
  each : (k : ℕ) → k < l.l → number_in_place l.iterations.items k ≡ (visit_at l.visits (number_in_place l.tree.headers k)).iteration;
}
