-- What the notes of every loop file keep, and notes that are made of others.
use Rattle.std.specs.Prelude.{◌≤◌, false, List, length, All}
use Rattle.loop_file.specs.declared.notes.LoopNote.{LoopNote}

-- 1 to 16 ranges, and a bound of at most 1,000,000,000, which `at_least` doesn't pass
pub record IsLoopNote (note : LoopNote) : Type 0 where
  pub some : 1 ≤ length note.ranges
  pub few : length note.ranges ≤ 16
  pub bound : note.bound ≤ 1000000000
  pub least : note.at_least ≤ note.bound

-- at most 4,096 notes
pub record AreLoopNotes (notes : List LoopNote) : Type 0 where
  pub few : length notes ≤ 4096
  pub each : All IsLoopNote notes

-- the note with the greatest bound, of a loop that need not turn before it is left
abbrev pub relaxed_note : LoopNote → LoopNote
relaxed_note note = record note { bound = 1000000000; at_least = 0 }

-- the note of a loop that no shadow counter counts
abbrev pub uncounted_note : LoopNote → LoopNote
uncounted_note note = record note { counted = false }
