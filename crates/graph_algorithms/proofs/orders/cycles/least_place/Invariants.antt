use Rattle.std.proofs.Common.{ℕ, ◌<◌, ◌≤◌, length}
use Rattle.graph_algorithms.specs.Arcs.{number_in_place}
use Rattle.graph_algorithms.proofs.orders.cycles.least_place.Given as goal

abbrev pub invariant-loop-i : goal.invariant-loop-i
invariant-loop-i l = record {
  within : l.least < length l.numbers;
  least : (i : ℕ) → i < l.i → number_in_place l.numbers l.least ≤ number_in_place l.numbers i;
}
