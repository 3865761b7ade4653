use Rattle.std.proofs.Common.{◌≡◌, ℕ, ◌<◌, length, slice_get, Some}
use Rattle.graph_algorithms.specs.Arcs.{number_in_place}
use Rattle.loop_tree.proofs.cycles.addresses_of.Given as goal

abbrev pub invariant-loop-k : goal.invariant-loop-k
invariant-loop-k l = record {
  size : length l.addresses.items ≡ l.k-index;
  each : (i : ℕ) → i < l.k-index → slice_get l.graph.code.nodes (number_in_place l.numbers i) ≡ Some (number_in_place l.addresses.items i);
}
