use Rattle.std.proofs.Common.{◌≡◌, ◌-◌, ◌<◌, ℕ, length, find}
use Rattle.std.specs.List.{range_with_len}
use Rattle.power_model.specs.Slowest.{IsTooSlow, is_in_time, slowest_of}
use Rattle.power_model.proofs.power.slowest.Given as goal

-- the levels so far are too slow
abbrev pub invariant-loop-i : goal.invariant-loop-i
invariant-loop-i l = record {
  end : l.i-end ≡ length l.power.levels;
  slower : (j : ℕ) → j < l.i → IsTooSlow l.power l.worst j;
  chosen : find (is_in_time l.power l.worst) (range_with_len l.i (length l.power.levels - l.i)) ≡ slowest_of l.power l.worst;
}
