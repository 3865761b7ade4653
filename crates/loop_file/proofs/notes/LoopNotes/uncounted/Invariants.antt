use Rattle.std.proofs.Common.{◌≡◌}
use Rattle.loop_file.specs.Notes.{uncounted_note}
use Rattle.loop_file.proofs.Changed.{changed_upto}
use Rattle.loop_file.proofs.notes.LoopNotes.uncounted.Given as goal

-- the notes before the next one are changed
abbrev pub invariant-loop-note : goal.invariant-loop-note
invariant-loop-note l = l.note-items ≡ changed_upto uncounted_note l.note-index l.fn.self
