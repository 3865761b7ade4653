use Rattle.std.proofs.Common.{◌≡◌, List, refl, subst, map, Bor}
use Rattle.jump_lists.specs.declared.notes.JumpNote.{JumpNote}
use Rattle.image_lower.specs.Block.{insert_note, put_note}
use Rattle.image_lower.proofs.Places.{ascend}
use Rattle.image_lower.proofs.block.ascending.Goals as goal

pub loop-note-preserved : goal.loop-note-preserved
loop-note-preserved c =
    let P : List (Bor JumpNote) → Type 0 = λ xs. insert_note (map (λ n. n.now) xs) c.note-item.result ≡ put_note (map (λ n. n.now) xs) c.place_of-place.result c.note-item.result in
    ascend c.loop-note.sorted.items c.insert.new.self.items c.place_of-place.result _ c.args.notes.now c.loop-note.note-index c.note-item.result c.loop-note-test.true c.note-item.is refl c.in_ok-insert.ensures.items c.loop-note.invariant
    (subst P c.deref.ensures.value (c.place_of-place.ensures.place c.note-item.result refl))
