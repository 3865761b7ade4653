use Rattle.std.proofs.Common.{◌≡◌, ◌≢◌, ℕ, ◌+◌, ◌<◌, length}
use Rattle.graph_algorithms.specs.Arcs.{number_in_place}
use Rattle.worst_cycles.proofs.around.add_turns.Given as goal

abbrev pub invariant-loop-k : goal.invariant-loop-k
invariant-loop-k l = record {
  size : length l.around.items ≡ length l.fn.around.items;
  inside : (i : ℕ) → i < l.k-index → number_in_place l.around.items (number_in_place l.body i) ≡ number_in_place l.fn.around.items (number_in_place l.body i) + l.turns;
  outside : (k : ℕ) → ((i : ℕ) → i < l.k-index → number_in_place l.body i ≢ k) → number_in_place l.around.items k ≡ number_in_place l.fn.around.items k;
}
