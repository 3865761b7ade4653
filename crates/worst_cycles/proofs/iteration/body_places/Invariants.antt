use Rattle.std.proofs.Common.{◌≡◌, ℕ, ◌<◌, length}
use Rattle.graph_algorithms.specs.Arcs.{number_in_place}
use Rattle.worst_cycles.proofs.iteration.body_places.Given as goal

abbrev pub invariant-loop-k : goal.invariant-loop-k
invariant-loop-k l = record {
  size : length l.steps.items ≡ l.k-index;
  each : (i : ℕ) → i < l.k-index → number_in_place l.steps.items i ≡ number_in_place l.plan.places.items (number_in_place l.body i);
}
