use Rattle.std.proofs.Common.{◌≡◌, ◌+◌, ◌<◌, ℕ, length}
use Rattle.graph_algorithms.specs.Arcs.{number_in_place}
use Rattle.least_cycles.proofs.order.ranks_of.Given as goal

abbrev pub invariant-loop-i : goal.invariant-loop-i
invariant-loop-i l = record {
  size : length l.ranks.items ≡ length l.graph.code.nodes;
  each : (j : ℕ) → j < l.i → number_in_place l.ranks.items (number_in_place l.order j) + j + 1 ≡ length l.order;
}
