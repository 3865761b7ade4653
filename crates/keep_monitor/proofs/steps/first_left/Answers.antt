use Rattle.std.proofs.Common.{◌≡◌, ◌∙◌, ℕ, ◌<◌, true, false, sym, ap, subst, arith, slice_index, ⊎_elim}
use Rattle.std.proofs.lemmas.Option.{get_or_from_slice_get}
use Rattle.loop_file.specs.declared.notes.LoopNote.{LoopNote}
use Rattle.loop_file.specs.Kept.{note_at}
use Rattle.keep_monitor.specs.Steps as steps
use Rattle.keep_monitor.proofs.BreakLaws.{at_end, is_early_at, none_left, first_left}
use Rattle.keep_monitor.proofs.steps.first_left.Goals as goal

pub returns-then-is_left_early-clause-left : goal.returns-then-is_left_early-clause-left
returns-then-is_left_early-clause-left c =
    let i : ℕ = c.loop-k.k-index in
    let k : ℕ = slice_index c.args.turning.now i in
    let note : note_at c.args.notes.now k ≡ c.note.result.now = get_or_from_slice_get c.args.notes.now k c.note.result.now _ c.note.ensures.note in
    let here : is_early_at c.args.notes.now c.args.turning.now c.args.counts.now c.args.step.now i ≡ true =
    ap (λ (n : LoopNote). steps.is_left_early n c.args.step.now (slice_index c.args.counts.now k)) note ∙ sym c.is_left_early.ensures ∙ c.if-is_left_early.true in
    sym (first_left c.args.notes.now c.args.turning.now c.args.counts.now c.args.step.now c.requires.turning i (omega arith) here c.loop-k.invariant)

pub loop-k-preserved : goal.loop-k-preserved
loop-k-preserved c =
    let i : ℕ = c.loop-k.k-index in
    let k : ℕ = slice_index c.args.turning.now i in
    let note : note_at c.args.notes.now k ≡ c.note.result.now = get_or_from_slice_get c.args.notes.now k c.note.result.now _ c.note.ensures.note in
    let here : is_early_at c.args.notes.now c.args.turning.now c.args.counts.now c.args.step.now i ≡ false =
    ap (λ (n : LoopNote). steps.is_left_early n c.args.step.now (slice_index c.args.counts.now k)) note ∙ sym c.is_left_early.ensures ∙ c.if-is_left_early.false in
    λ j jl. ⊎_elim
    (λ (low : j < i). c.loop-k.invariant j low)
    (λ (e : j ≡ i). subst (λ n. is_early_at c.args.notes.now c.args.turning.now c.args.counts.now c.args.step.now n ≡ false) (sym e) here)
    (at_end j i jl)

pub returns-clause-left : goal.returns-clause-left
returns-clause-left c =
    sym (none_left c.args.notes.now c.args.turning.now c.args.counts.now c.args.step.now c.requires.turning (λ j jl. c.loop-k.invariant j (omega arith)))
