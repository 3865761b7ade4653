use Rattle.std.proofs.Common.{ℕ, ◌≡◌, List, length, Option, Some, refl, sym, subst, below_more, arith}
use Rattle.std.specs.Prelude.{slice_get}
use Rattle.std.proofs.lemmas.Option.{get_or_from_slice_get, slice_get_read}
use Rattle.loop_file.specs.declared.notes.LoopNote.{LoopNote}
use Rattle.loop_file.specs.Kept.{note_at}
use Rattle.copy_checks.specs.declared.covering.CopyReason.{CopyReason}
use Rattle.version_loops.specs.Checked.{IsKeptSo}
use Rattle.version_loops.proofs.checking.are_kept_so.Goals as goal

-- what is so of a reason that stands at a number is so of what stands there
at_number : (reasons : List (Option CopyReason)) (k : ℕ) (one : Option CopyReason) (drafted note : LoopNote) → slice_get reasons k ≡ Some one → IsKeptSo one drafted note →
    (reason : Option CopyReason) → slice_get reasons k ≡ Some reason → IsKeptSo reason drafted note
at_number reasons k one drafted note there so reason at = let same : one ≡ reason = cc in subst (λ (x : Option CopyReason). IsKeptSo x drafted note) same so

pub loop-k-preserved : goal.loop-k-preserved
loop-k-preserved c =
    let reasons = c.args.reasons.now in
    let drafted = c.args.drafted.now in
    let notes = c.args.notes.now in
    let k = c.loop-k.k in
    let one = c.index-reasons-k.result in
    let there = slice_get_read reasons (length reasons) k one refl (omega arith) c.index-reasons-k.is in
    let first = get_or_from_slice_get drafted k c.note.result.now _ c.note.ensures.note in
    let second = get_or_from_slice_get notes k c.note-in-loop-k.result.now _ c.note-in-loop-k.ensures.note in
    let so : IsKeptSo one (note_at drafted k) (note_at notes k) =
    subst (λ (note : LoopNote). IsKeptSo one note (note_at notes k)) (sym first) (subst (λ (note : LoopNote). IsKeptSo one c.note.result.now note) (sym second) (c.if-not-is_kept_so.ensures refl)) in
    below_more (λ (i : ℕ). (reason : Option CopyReason) → slice_get reasons i ≡ Some reason → IsKeptSo reason (note_at drafted i) (note_at notes i)) k c.loop-k.invariant
    (at_number reasons k one (note_at drafted k) (note_at notes k) there so)
