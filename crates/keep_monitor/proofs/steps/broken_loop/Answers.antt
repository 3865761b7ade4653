use Rattle.std.proofs.Common.{◌≡◌, ◌∙◌, ℕ, ◌+◌, ◌==◌, cond, sym, ap, Some, None, option_map, slice_index}
use Rattle.std.proofs.lemmas.Option.{get_or_from_slice_get}
use Rattle.scale_base.specs.declared.endings.Kept.TheVariants.{BrokeBound}
use Rattle.loop_file.specs.declared.notes.LoopNote.{LoopNote}
use Rattle.loop_file.specs.Kept.{note_at}
use Rattle.keep_monitor.specs.Watch.{loop_broken}
use Rattle.keep_monitor.specs.Steps as steps
use Rattle.keep_monitor.proofs.BreakLaws.{broken_is, count_is}
use Rattle.keep_monitor.proofs.steps.broken_loop.Goals as goal

pub returns-in-None : goal.returns-in-None
returns-in-None c =
    let found : loop_broken c.args.rules.now.notes.now (steps.counts_after_step c.args.rules.now.notes.now c.args.counts.now c.args.source c.args.arrival.now.step.now.next) c.args.arrival.now.step.now ≡ None =
    broken_is c.args.rules.now.notes.now c.args.counts.now c.args.source c.args.arrival.now.step.now ∙ ap (λ o. steps.lesser_loop o (steps.loop_left c.args.rules.now.notes.now c.args.counts.now c.args.arrival.now.step.now)) (sym c.first_over-over.ensures.over)
    ∙ ap (λ o. steps.lesser_loop c.first_over-over.result o) (sym c.first_left-left.ensures.left) ∙ sym c.lesser.ensures.lesser ∙ c.in-None.is in
    sym (ap (option_map (λ k. BrokeBound (k + 1) (steps.counts_after_step c.args.rules.now.notes.now c.args.counts.now c.args.source c.args.arrival.now.step.now.next k))) found)

pub returns-in-Some : goal.returns-in-Some
returns-in-Some c =
    let k : ℕ = c.in-Some.k in
    let found : loop_broken c.args.rules.now.notes.now (steps.counts_after_step c.args.rules.now.notes.now c.args.counts.now c.args.source c.args.arrival.now.step.now.next) c.args.arrival.now.step.now ≡ Some k =
    broken_is c.args.rules.now.notes.now c.args.counts.now c.args.source c.args.arrival.now.step.now ∙ ap (λ o. steps.lesser_loop o (steps.loop_left c.args.rules.now.notes.now c.args.counts.now c.args.arrival.now.step.now)) (sym c.first_over-over.ensures.over)
    ∙ ap (λ o. steps.lesser_loop c.first_over-over.result o) (sym c.first_left-left.ensures.left) ∙ sym c.lesser.ensures.lesser ∙ c.in-Some.is in
    let note : note_at c.args.rules.now.notes.now k ≡ c.note.result.now = get_or_from_slice_get c.args.rules.now.notes.now k c.note.result.now _ c.note.ensures.note in
    let count : steps.counts_after_step c.args.rules.now.notes.now c.args.counts.now c.args.source c.args.arrival.now.step.now.next k ≡ c.count_after.result =
    count_is c.args.rules.now.notes.now c.args.counts.now c.args.source c.args.arrival.now.step.now.next k
    ∙ ap (λ (n : LoopNote). cond (c.args.arrival.now.step.now.next == n.header) (steps.count_then n c.args.source (slice_index c.args.counts.now k)) (slice_index c.args.counts.now k)) note ∙ sym c.count_after.ensures in
    sym (ap (option_map (λ k. BrokeBound (k + 1) (steps.counts_after_step c.args.rules.now.notes.now c.args.counts.now c.args.source c.args.arrival.now.step.now.next k))) found ∙ ap (λ n. Some (BrokeBound (k + 1) n)) count)
