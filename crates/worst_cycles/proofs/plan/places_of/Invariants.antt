use Rattle.std.proofs.Common.{◌≡◌, ℕ, ◌<◌, length}
use Rattle.graph_algorithms.specs.Arcs.{number_in_place}
use Rattle.worst_cycles.proofs.plan.places_of.Given as goal

abbrev pub invariant-loop-i : goal.invariant-loop-i
invariant-loop-i l = record {
  size : length l.places.items ≡ l.count;
  each : (j : ℕ) → j < l.i → number_in_place l.places.items (number_in_place l.order j) ≡ j;
}
