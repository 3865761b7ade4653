-- Kept runs of a program by the notes of its loops.
use Rattle.std.specs.Prelude.{◌≡◌, ◌≤◌, ◌==◌, ◌||◌, ℕ, Bool, false, List, [], length, slice_index_or, Some}
use Rattle.std.specs.List.{list_any}
use Rattle.scale_base.specs.Image.{Image, is_in}
use Rattle.cost_theory.specs.Graph.{Loops}
use Rattle.loop_file.specs.declared.notes.LoopNote.{LoopNote}

-- the extent of a loop: its header and the addresses in its ranges
abbrev pub in_extent : LoopNote → ℕ → Bool
in_extent note v = (v == note.header) || list_any (is_in v) note.ranges

-- the note of a number, from 0 on
abbrev pub note_at : List LoopNote → ℕ → LoopNote
note_at notes k = slice_index_or notes k (record { header = 0; ranges = []; bound = 0; counted = false; at_least = 0 })

-- the loops of notes, by their extents
abbrev pub noted_loops : List LoopNote → Loops
noted_loops notes = record {
  loops = length notes;
  header = λ k. (note_at notes k).header;
  bound = λ k. (note_at notes k).bound;
  least_trips = λ k. (note_at notes k).at_least;
  inside = λ k v. in_extent (note_at notes k) v;
}
