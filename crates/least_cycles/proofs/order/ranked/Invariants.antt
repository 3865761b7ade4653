use Rattle.std.proofs.Common.{◌≡◌, ◌<◌, ℕ, length}
use Rattle.graph_algorithms.specs.Arcs.{number_in_place}
use Rattle.least_cycles.proofs.order.ranked.Given as goal

abbrev pub invariant-loop-i : goal.invariant-loop-i
invariant-loop-i l = record {
  size : length l.places.items ≡ length l.initial.places.items;
  each : (j : ℕ) → j < l.i → number_in_place l.places.items (number_in_place l.ranked.items j) ≡ j;
}
