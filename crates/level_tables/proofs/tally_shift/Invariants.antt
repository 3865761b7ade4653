use Rattle.std.proofs.Common.{◌/◌, ◌<◌, ◌^◌, ℕ}
use Rattle.level_tables.proofs.tally_shift.Given as goal

abbrev pub invariant-loop-s : goal.invariant-loop-s
invariant-loop-s l = record {
  above : (k : ℕ) → k < l.s → 2045 < l.bound / 2 ^ k;
}
