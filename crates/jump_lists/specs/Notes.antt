-- What the notes of every jump file keep.
use Rattle.std.specs.Prelude.{◌≡◌, ℕ, ◌%◌, ◌≤◌, ◌==◌, ◌&&◌, not, Bool, true, List, [], ◌∷◌, length, All}
use Rattle.std.specs.List.{list_any}
use Rattle.jump_lists.specs.declared.notes.JumpNote.{JumpNote}

-- no number is in the list twice
abbrev pub are_distinct : List ℕ → Bool
are_distinct [] = true
are_distinct (x ∷ xs) = not (list_any (λ y. y == x) xs) && are_distinct xs

-- the address of a word
abbrev pub IsAligned : ℕ → Type 0
IsAligned at = at % 4 ≡ 0

-- 1 to 128 distinct targets, all of them addresses of words
pub record AreTargets (targets : List ℕ) : Type 0 where
  pub some : 1 ≤ length targets
  pub few : length targets ≤ 128
  pub aligned : All IsAligned targets
  pub distinct : are_distinct targets ≡ true

pub record IsJumpNote (note : JumpNote) : Type 0 where
  pub at : IsAligned note.at
  pub targets : AreTargets note.targets

-- at most 1,024 notes
pub record AreJumpNotes (notes : List JumpNote) : Type 0 where
  pub few : length notes ≤ 1024
  pub each : All IsJumpNote notes
