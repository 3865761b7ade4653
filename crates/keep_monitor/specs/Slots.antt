-- Scaffold: slots of addresses, and which of them have a header of a loop.
use Rattle.std.specs.Prelude.{◌≡◌, ℕ, ◌<◌, ◌/◌, ◌%◌, Bool, true, List, length, slice_index_or}
use Rattle.loop_file.specs.declared.notes.LoopNote.{LoopNote}
use Rattle.loop_file.specs.Kept.{note_at}

abbrev pub slot_of : ℕ → ℕ
slot_of at = at / 4 % 65536

-- the slots of the headers of the first n loops are marked
pub record AreSlotsOf (notes : List LoopNote) (n : ℕ) (slots : List Bool) : Type 0 where
  pub size : length slots ≡ 65536
  pub marked : (k : ℕ) → k < n → (b : Bool) → slice_index_or slots (slot_of (note_at notes k).header) b ≡ true
