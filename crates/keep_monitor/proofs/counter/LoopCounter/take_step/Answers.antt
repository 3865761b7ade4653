use Rattle.std.proofs.Common.{◌≡◌, ◌∙◌, ℕ, List, [], ◌++◌, length, reverse, filter, take, drop, vec_len, vec_capacity, sym, ap, subst}
use Rattle.std.proofs.lemmas.List.{take_at}
use Rattle.scale_base.specs.declared.endings.Kept.{Kept}
use Rattle.scale_base.specs.declared.stepping.Stepped.{Stepped}
use Rattle.graph_runs.specs.ReturnAddresses.{returns_after}
use Rattle.loop_file.specs.declared.notes.LoopNote.{LoopNote}
use Rattle.loop_file.specs.Notes.{relaxed_note}
use Rattle.keep_monitor.specs.declared.headers.Header.{Header}
use Rattle.keep_monitor.specs.Headers.{AreLoopsOf, is_of}
use Rattle.keep_monitor.specs.Steps.{IsMonitor}
use Rattle.keep_monitor.specs.Watch.{Watched, watch_returns}
use Rattle.keep_monitor.specs.Counted.{Counted, counted, judged, raised_most}
use Rattle.keep_monitor.specs.contracts.counter.LoopCounter.{the_view}
use Rattle.keep_monitor.proofs.HeaderLaws.{loops_from_filter}
use Rattle.keep_monitor.proofs.AlikeLaws.{going_with, relaxed_alike}
use Rattle.keep_monitor.proofs.CountedRuns.{counted_off}
use Rattle.keep_monitor.proofs.CounterLaws.{alike_loops, counting, step_seen, judged_counts}
use Rattle.keep_monitor.proofs.counter.LoopCounter.take_step.Goals as goal

pub raise-requires-clause-loops : goal.raise-requires-clause-loops
raise-requires-clause-loops c =
    let x : Stepped = c.args.step.now in
    loops_from_filter c.self.inside.relaxed x.next c.headers_at-group.result.now
    (c.headers_at-group.ensures ∙ (ap (filter (is_of x.next)) c.deref.ensures.value ∙ c.self.invariant.0.monitor.headers_fit.same x.next))

pub judge-self-inside-requires-clause-loops : goal.judge-self-inside-requires-clause-loops
judge-self-inside-requires-clause-loops c =
    let x : Stepped = c.args.step.now in
    let of : AreLoopsOf c.self.inside.relaxed x.next c.headers_at-group.result.now = loops_from_filter c.self.inside.relaxed x.next c.headers_at-group.result.now
    (c.headers_at-group.ensures ∙ (ap (filter (is_of x.next)) c.deref.ensures.value ∙ c.self.invariant.0.monitor.headers_fit.same x.next)) in
    alike_loops _ c.self.inside.notes (relaxed_alike c.self.inside.notes) x.next c.headers_at-group.result.now
    (subst (λ ns. AreLoopsOf ns x.next c.headers_at-group.result.now) c.self.invariant.0.relaxed_is of)

pub invariant_of-self : goal.invariant_of-self
invariant_of-self c =
    let inside = c.self.inside in
    let x : Stepped = c.args.step.now in
    let returns : List ℕ = reverse inside.returns.items in
    let judging : c.judge-self-inside.result ≡ judged inside.notes inside.kept (going_with inside.notes returns inside.counts.items) x =
    c.judge-self-inside.ensures ∙ (ap (λ (rs : List ℕ). judged inside.notes inside.kept (going_with inside.notes (reverse rs) c.deref-in-Kept-3.result.now) x) c.deref-in-Kept-2.ensures.value ∙
    ap (λ (cs : List ℕ). judged inside.notes inside.kept (going_with inside.notes returns cs) x) c.deref-in-Kept-3.ensures.value) in
    let watching : record { notes = inside.relaxed; returns = reverse c.watch_next-self-inside.new.returns.items; counts = c.watch_next-self-inside.new.counts.items; kept = c.watch_next-self-inside.result } ≡
    watch_returns (going_with inside.relaxed returns inside.counts.items) x (returns_after returns x) = c.watch_next-self-inside.ensures.watched in
    let most : List ℕ = c.raise.new.most in
    let back : take inside.most.len (most ++ drop (length most) inside.most.items) ≡ most = take_at most (drop (length most) inside.most.items) inside.most.len (c.raise.auto.most ∙ c.deref_mut.ensures.len) in
    let whole = c.self.invariant.0 in (
      record {
        relaxed_is = whole.relaxed_is;
        notes_fit = whole.notes_fit;
        monitor = subst (λ (hs : List Header). IsMonitor inside.relaxed hs [] (vec_len c.watch_next-self-inside.new.returns) (vec_capacity c.watch_next-self-inside.new.returns) c.watch_next-self-inside.new.counts.items)
            c.deref-in-Kept-6.ensures.value c.watch_next-self-inside.ensures.fits;
        turning_fit = whole.turning_fit;
        size = ap length back ∙ (c.raise.auto.most ∙ (ap length c.deref_mut.ensures.value ∙ whole.size));
        bounded = λ e. judged_counts inside.notes inside.relaxed whole.notes_fit whole.relaxed_is returns inside.counts.items x inside.kept c.judge-self-inside.result
            (reverse c.watch_next-self-inside.new.returns.items) c.watch_next-self-inside.new.counts.items c.watch_next-self-inside.result judging watching e;
      },
      c.self.invariant.1,
    )

pub returns-in-Kept : goal.returns-in-Kept
returns-in-Kept c =
    let inside = c.self.inside in
    let x : Stepped = c.args.step.now in
    let returns : List ℕ = reverse inside.returns.items in
    let judging : c.judge-self-inside.result ≡ judged inside.notes inside.kept (going_with inside.notes returns inside.counts.items) x =
    c.judge-self-inside.ensures ∙ (ap (λ (rs : List ℕ). judged inside.notes inside.kept (going_with inside.notes (reverse rs) c.deref-in-Kept-3.result.now) x) c.deref-in-Kept-2.ensures.value ∙
    ap (λ (cs : List ℕ). judged inside.notes inside.kept (going_with inside.notes returns cs) x) c.deref-in-Kept-3.ensures.value) in
    let watching : record { notes = inside.relaxed; returns = reverse c.watch_next-self-inside.new.returns.items; counts = c.watch_next-self-inside.new.counts.items; kept = c.watch_next-self-inside.result } ≡
    watch_returns (going_with inside.relaxed returns inside.counts.items) x (returns_after returns x) = c.watch_next-self-inside.ensures.watched in
    let most : List ℕ = c.raise.new.most in
    let back : take inside.most.len (most ++ drop (length most) inside.most.items) ≡ most = take_at most (drop (length most) inside.most.items) inside.most.len (c.raise.auto.most ∙ c.deref_mut.ensures.len) in
    let raising : most ≡ raised_most (going_with inside.relaxed returns inside.counts.items) inside.most.items x (returns_after returns x) =
    c.raise.ensures ∙
    (ap (λ (rs : List ℕ). raised_most (going_with inside.relaxed (reverse rs) c.deref-in-Kept-5.result.now) c.deref_mut.result.now x (returns_after (reverse rs) x)) c.deref-in-Kept-4.ensures.value ∙
    (ap (λ (cs : List ℕ). raised_most (going_with inside.relaxed returns cs) c.deref_mut.result.now x (returns_after returns x)) c.deref-in-Kept-5.ensures.value ∙
    ap (λ (ms : List ℕ). raised_most (going_with inside.relaxed returns inside.counts.items) ms x (returns_after returns x)) c.deref_mut.ensures.value)) in
    ap (λ (m : List ℕ). counting inside.notes inside.relaxed (reverse c.watch_next-self-inside.new.returns.items) c.watch_next-self-inside.new.counts.items m c.judge-self-inside.result c.watch_next-self-inside.result) back ∙
    (step_seen inside.notes inside.relaxed returns inside.counts.items inside.most.items inside.kept inside.relaxed_kept x
    (reverse c.watch_next-self-inside.new.returns.items) c.watch_next-self-inside.new.counts.items most c.judge-self-inside.result c.watch_next-self-inside.result
    c.in-Kept.is judging raising watching ∙ ap (λ (v : Counted). counted v x) c.self.view_is)

pub returns-in_default : goal.returns-in_default
returns-in_default c = sym c.self.view_is ∙ (sym (counted_off (the_view c.self.inside) c.args.step.now c.in_default.not-Kept) ∙ ap (λ (v : Counted). counted v c.args.step.now) c.self.view_is)
