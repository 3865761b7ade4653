use Rattle.std.proofs.Common.{ℕ, ◌<◌, ◌≤◌, length}
use Rattle.image_check.specs.Causes.{IsBadEntry}
use Rattle.image_check.proofs.entries.word_level.Given as goal

abbrev pub invariant-loop-i : goal.invariant-loop-i
invariant-loop-i l = record {
  few : length l.power.levels ≤ 8;
  fine : (k : ℕ) → k < l.i → IsBadEntry l.power l.told l.word k → ⊥;
}
