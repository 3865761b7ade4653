use Rattle.std.proofs.Common.{◌≡◌, map, take}
use Rattle.loop_file.specs.Notes.{relaxed_note}
use Rattle.loop_file.proofs.notes.LoopNotes.relaxed.Given as goal

-- the notes so far
abbrev pub invariant-loop-note : goal.invariant-loop-note
invariant-loop-note l = l.items.items ≡ map relaxed_note (take l.note-index l.self)
