use Rattle.std.proofs.Common.{◌≡◌, ◌≢◌, ℕ, ◌<◌, length, slice_get, Some, None}
use Rattle.worst_cycles.specs.Visits.{headed_at}
use Rattle.worst_cycles.proofs.plan.headed_loops.Given as goal

abbrev pub invariant-loop-l : goal.invariant-loop-l
invariant-loop-l l = record {
  size : length l.headed.items ≡ l.count;
  some : (k j : ℕ) → headed_at l.headed.items k ≡ Some j → slice_get l.tree.headers j ≡ Some k;
  none : (k j : ℕ) → j < l.l → headed_at l.headed.items k ≡ None → slice_get l.tree.headers j ≢ Some k;
}
