use Rattle.std.proofs.Common.{arith, rules, ◌≡◌, ◌≤◌, length, subst}
use Rattle.loop_file.specs.Notes.{AreLoopNotes}
use Rattle.loop_file.proofs.Changed.{relaxed_upto}
use Rattle.loop_file.proofs.notes.LoopNotes.relaxed.Goals as goal

pub invariant_of-result : goal.invariant_of-result
invariant_of-result c = relaxed_upto c.args.self.now c.loop-note.items.items c.loop-note.note-index c.loop-note.invariant (search rules) (subst AreLoopNotes c.self.view_is c.self.invariant)
