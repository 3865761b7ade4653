use Rattle.std.proofs.Common.{◌≡◌, ◌≤◌, ◌<◌, ℕ, Some, sym, subst, slice_index}
use Rattle.std.proofs.lemmas.Option.{get_or_from_slice_get}
use Rattle.loop_file.specs.declared.notes.LoopNote.{LoopNote}
use Rattle.loop_file.specs.Kept.{note_at}
use Rattle.keep_monitor.specs.Steps.{count_then}
use Rattle.keep_monitor.proofs.TurnLaws.{count_found, turn_broken, turn_kept, turn_fits}
use Rattle.keep_monitor.proofs.monitor.watch_turn.Goals as goal

pub returns-then-count-note-clause-watched : goal.returns-then-count-note-clause-watched
returns-then-count-note-clause-watched c =
    let k : ℕ = c.args.number in
    let note : note_at c.args.notes.now k ≡ c.note-note.result.now = get_or_from_slice_get c.args.notes.now k c.note-note.result.now _ c.note-note.ensures.note in
    let count : c.next_count-count.result ≡ count_then (note_at c.args.notes.now k) (Some c.args.step.now.pc) (slice_index c.args.counts.now.items k) =
    count_found c.args.notes.now c.args.counts.now.items k c.args.step.now.pc c.note-note.result.now c.index.result.now c.next_count-count.result note
    (subst (λ n. k < n) (sym c.requires.counts.size) c.requires.lone.within) c.index.ensures c.next_count-count.ensures in
    let above : (note_at c.args.notes.now k).bound < c.next_count-count.result =
    subst (λ (n : LoopNote). n.bound < c.next_count-count.result) (sym note) c.if-count-note.true in
    turn_broken c.args.notes.now c.args.counts.now.items c.args.step.now k c.next_count-count.result c.requires.moved c.requires.lone c.requires.turning c.requires.counts count above

pub returns-clause-watched : goal.returns-clause-watched
returns-clause-watched c =
    let k : ℕ = c.args.number in
    let note : note_at c.args.notes.now k ≡ c.note-note.result.now = get_or_from_slice_get c.args.notes.now k c.note-note.result.now _ c.note-note.ensures.note in
    let count : c.next_count-count.result ≡ count_then (note_at c.args.notes.now k) (Some c.args.step.now.pc) (slice_index c.args.counts.now.items k) =
    count_found c.args.notes.now c.args.counts.now.items k c.args.step.now.pc c.note-note.result.now c.index.result.now c.next_count-count.result note
    (subst (λ n. k < n) (sym c.requires.counts.size) c.requires.lone.within) c.index.ensures c.next_count-count.ensures in
    let low : c.next_count-count.result ≤ (note_at c.args.notes.now k).bound =
    subst (λ (n : LoopNote). c.next_count-count.result ≤ n.bound) (sym note) c.if-count-note.false in
    turn_kept c.args.notes.now c.args.counts.now.items c.args.step.now k c.next_count-count.result c.requires.moved c.requires.lone c.requires.turning c.requires.counts count low

pub returns-clause-fits : goal.returns-clause-fits
returns-clause-fits c =
    let k : ℕ = c.args.number in
    let note : note_at c.args.notes.now k ≡ c.note-note.result.now = get_or_from_slice_get c.args.notes.now k c.note-note.result.now _ c.note-note.ensures.note in
    let count : c.next_count-count.result ≡ count_then (note_at c.args.notes.now k) (Some c.args.step.now.pc) (slice_index c.args.counts.now.items k) =
    count_found c.args.notes.now c.args.counts.now.items k c.args.step.now.pc c.note-note.result.now c.index.result.now c.next_count-count.result note
    (subst (λ n. k < n) (sym c.requires.counts.size) c.requires.lone.within) c.index.ensures c.next_count-count.ensures in
    let low : c.next_count-count.result ≤ (note_at c.args.notes.now k).bound =
    subst (λ (n : LoopNote). c.next_count-count.result ≤ n.bound) (sym note) c.if-count-note.false in
    turn_fits c.args.notes.now c.args.counts.now.items c.args.step.now k c.next_count-count.result c.requires.moved c.requires.lone c.requires.turning c.requires.counts count low
