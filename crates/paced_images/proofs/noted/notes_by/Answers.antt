use Rattle.std.proofs.Common.{◌∷◌, [], ◌++◌, take, sym, ap, ◌∙◌}
use Rattle.paced_images.specs.Wanted.{note_by, notes_by}
use Rattle.paced_images.proofs.Taken.{map_next}
use Rattle.paced_images.proofs.noted.notes_by.Goals as goal

pub loop-k-preserved : goal.loop-k-preserved
loop-k-preserved c =
    let n = c.in_ok-note_by.field-0 in
    c.in_ok-push.ensures.pushed ∙ (ap (λ ns. ns ++ n ∷ []) c.loop-k.invariant
    ∙ (ap (λ q. notes_by c.args.counted c.args.tallied.now (take c.loop-k.k c.args.notes.now) ++ q ∷ []) c.in_ok-note_by.ensures.note
    ∙ sym (map_next (note_by c.args.counted c.args.tallied.now) c.args.notes.now c.loop-k.k c.note.result.now c.note.ensures.note)))
