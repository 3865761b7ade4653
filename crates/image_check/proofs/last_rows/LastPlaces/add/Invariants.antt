use Rattle.std.proofs.Common.{◌≡◌, ℕ, ◌+◌, ◌<◌}
use Rattle.stored_runs.specs.Meaning.{four_bits}
use Rattle.image_check.specs.LastRows.{last_of}
use Rattle.image_check.proofs.last_rows.LastPlaces.add.Given as goal

abbrev pub invariant-loop-i : goal.invariant-loop-i
invariant-loop-i l = record {
  has : (k j : ℕ) → k < l.i → j < 16 → four_bits l.word k ≡ j → last_of l.self k j ≡ l.number + 1;
  others : (k j : ℕ) → k < 8 → j < 16 → (four_bits l.word k ≡ j → ⊥) → last_of l.self k j ≡ last_of l.initial.self k j;
}
