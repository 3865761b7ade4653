use Rattle.std.proofs.Common.{ℕ, ◌<◌, ◌≤◌, length}
use Rattle.image_check.specs.Entries.{HasBadLast}
use Rattle.image_check.proofs.entries.table_level.Given as goal

abbrev pub invariant-loop-i : goal.invariant-loop-i
invariant-loop-i l = record {
  few : length l.power.levels ≤ 8;
  fine : (k : ℕ) → k < l.i → HasBadLast l.power l.exit l.start l.places k → ⊥;
}
