use Rattle.std.proofs.Common.{ℕ, ◌≡◌, Option, Some, refl, subst, sym, below_more}
use Rattle.std.specs.Prelude.{slice_get}
use Rattle.std.proofs.lemmas.Option.{get_or_from_slice_get}
use Rattle.loop_file.specs.declared.notes.LoopNote.{LoopNote}
use Rattle.loop_file.specs.Kept.{note_at}
use Rattle.copy_checks.specs.declared.covering.CopyReason.{CopyReason}
use Rattle.copy_checks.specs.Checked.{IsCovered}
use Rattle.copy_checks.proofs.covering.are_covered.Goals as goal

pub loop-k-preserved : goal.loop-k-preserved
loop-k-preserved c = below_more (λ (k : ℕ). (reason : Option CopyReason) × (slice_get c.args.reasons.now k ≡ Some reason) × IsCovered c.args.code.now (note_at c.args.notes.now k) c.args.olds.now reason) c.loop-k.k c.loop-k.invariant
    (c.reason_at.result.now, c.reason_at.ensures, subst (λ (note : LoopNote). IsCovered c.args.code.now note c.args.olds.now c.reason_at.result.now) (sym (get_or_from_slice_get c.args.notes.now c.loop-k.k c.note.result.now _ c.note.ensures.note)) (c.if-not-is_covered.ensures refl))
