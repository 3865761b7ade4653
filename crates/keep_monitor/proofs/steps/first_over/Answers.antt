use Rattle.std.proofs.Common.{◌≡◌, ◌∙◌, ℕ, ◌<◌, nat_lt, true, false, sym, ap, subst, arith, slice_index, ⊎_elim}
use Rattle.std.proofs.lemmas.Bool.{lt-ltb, le-ltb}
use Rattle.std.proofs.lemmas.Option.{get_or_from_slice_get}
use Rattle.loop_file.specs.declared.notes.LoopNote.{LoopNote}
use Rattle.loop_file.specs.Kept.{note_at}
use Rattle.keep_monitor.specs.Headers.{sorted_header}
use Rattle.keep_monitor.specs.Steps.{count_then, is_over}
use Rattle.keep_monitor.proofs.CountLaws.{none_over, first_over}
use Rattle.keep_monitor.proofs.BreakLaws.{at_end}
use Rattle.keep_monitor.proofs.steps.first_over.Goals as goal

pub returns-then-count-note-clause-over : goal.returns-then-count-note-clause-over
returns-then-count-note-clause-over c =
    let i : ℕ = c.loop-header.header-index in
    let k : ℕ = (sorted_header c.args.group.now i).number in
    let note : note_at c.args.notes.now k ≡ c.note-note.result.now = get_or_from_slice_get c.args.notes.now k c.note-note.result.now _ c.note-note.ensures.note in
    let over : nat_lt c.note-note.result.now.bound c.next_count-count.result ≡ true = lt-ltb _ _ c.if-count-note.true in
    let here : is_over c.args.notes.now c.args.group.now c.args.counts.now c.args.source i ≡ true =
    ap (λ (n : LoopNote). nat_lt n.bound (count_then n c.args.source (slice_index c.args.counts.now k))) note ∙ ap (nat_lt c.note-note.result.now.bound) (sym c.next_count-count.ensures) ∙ over in
    sym (first_over c.args.notes.now c.args.counts.now c.args.source c.args.next c.args.group.now c.requires.counts c.requires.loops i (omega arith) here c.loop-header.invariant)

pub loop-header-preserved : goal.loop-header-preserved
loop-header-preserved c =
    let i : ℕ = c.loop-header.header-index in
    let k : ℕ = (sorted_header c.args.group.now i).number in
    let note : note_at c.args.notes.now k ≡ c.note-note.result.now = get_or_from_slice_get c.args.notes.now k c.note-note.result.now _ c.note-note.ensures.note in
    let under : nat_lt c.note-note.result.now.bound c.next_count-count.result ≡ false = le-ltb _ _ c.if-count-note.false in
    let here : is_over c.args.notes.now c.args.group.now c.args.counts.now c.args.source i ≡ false =
    ap (λ (n : LoopNote). nat_lt n.bound (count_then n c.args.source (slice_index c.args.counts.now k))) note ∙ ap (nat_lt c.note-note.result.now.bound) (sym c.next_count-count.ensures) ∙ under in
    λ j jl. ⊎_elim
    (λ (low : j < i). c.loop-header.invariant j low)
    (λ (e : j ≡ i). subst (λ n. is_over c.args.notes.now c.args.group.now c.args.counts.now c.args.source n ≡ false) (sym e) here)
    (at_end j i jl)

pub returns-clause-over : goal.returns-clause-over
returns-clause-over c =
    sym (none_over c.args.notes.now c.args.counts.now c.args.source c.args.next c.args.group.now c.requires.counts c.requires.loops (λ j jl. c.loop-header.invariant j (omega arith)))
