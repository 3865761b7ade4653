use Rattle.std.proofs.Common.{◌≡◌, ◌≢◌, ℕ, ◌<◌, length, slice_get, Some, None}
use Rattle.graph_algorithms.specs.Keys.{option_at}
use Rattle.least_cycles.proofs.plan.heads_of.Given as goal

abbrev pub invariant-loop-l : goal.invariant-loop-l
invariant-loop-l l = record {
  size : length l.heads.items ≡ l.count;
  some : (k j : ℕ) → option_at l.heads.items k ≡ Some j → slice_get l.tree.headers j ≡ Some k;
  none : (k j : ℕ) → j < l.l → option_at l.heads.items k ≡ None → slice_get l.tree.headers j ≢ Some k;
}
