use Rattle.std.proofs.Common.{arith, rules, ◌∙◌, ◌≡◌, ◌+◌, sym, ap, map, subst, length}
use Rattle.loop_file.specs.Notes.{AreLoopNotes, uncounted_note}
use Rattle.loop_file.proofs.Changed.{changed_upto, next_note, uncounted_notes, uncounted_upto}
use Rattle.loop_file.proofs.notes.LoopNotes.uncounted.Goals as goal

pub loop-note-preserved : goal.loop-note-preserved
loop-note-preserved c = next_note c.args.self c.loop-note.note-items c.loop-note.note-index _ c.loop-note.invariant (search rules)

pub invariant_of-result : goal.invariant_of-result
invariant_of-result c = subst AreLoopNotes (sym (uncounted_upto c.self.inside.items.items c.loop-note.note-items c.loop-note.note-index c.self.inside.items.len (subst (λ ns. c.loop-note.note-items ≡ changed_upto uncounted_note c.loop-note.note-index ns) (sym c.self.view_is) c.loop-note.invariant) (search rules) (search rules) (search rules))) (uncounted_notes c.self.inside.items.items c.self.invariant)

pub returns : goal.returns
returns c = uncounted_upto c.self.inside.items.items c.loop-note.note-items c.loop-note.note-index c.self.inside.items.len (subst (λ ns. c.loop-note.note-items ≡ changed_upto uncounted_note c.loop-note.note-index ns) (sym c.self.view_is) c.loop-note.invariant) (search rules) (search rules) (search rules) ∙ ap (map uncounted_note) c.self.view_is
