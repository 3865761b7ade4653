use Rattle.std.proofs.Common.{◌≡◌, ◌∙◌, ℕ, ◌≤◌, length, reverse, drop, get_or, sym, ap, subst, Option, None, List}
use Rattle.std.proofs.lemmas.List.{take_at}
use Rattle.scale_base.specs.declared.stepping.Stepped.{Stepped}
use Rattle.graph_runs.specs.ReturnAddresses.{returns_after}
use Rattle.graph_runs.specs.KeptSteps.{source_of}
use Rattle.scale_base.specs.declared.endings.Kept.TheVariants as kinds
use Rattle.keep_monitor.specs.declared.headers.Header.{Header}
use Rattle.keep_monitor.specs.Headers.{AreLoopsOf}
use Rattle.keep_monitor.specs.Steps.{broken_by, broken_loop, count_after_at, AreCounts}
use Rattle.keep_monitor.proofs.HeaderLaws.{loops_from_filter}
use Rattle.loop_file.specs.Kept.{note_at}
use Rattle.keep_monitor.proofs.CountLaws.{counted_by_loop}
use Rattle.keep_monitor.proofs.BreakLaws.{counts_stay}
use Rattle.keep_monitor.proofs.StepLaws.{rule_broken, neither_broken, step_kept}
use Rattle.keep_monitor.proofs.monitor.watch_step.Goals as goal

pub broken_loop-of_loops-requires-clause-loops : goal.broken_loop-of_loops-requires-clause-loops
broken_loop-of_loops-requires-clause-loops c =
    loops_from_filter c.args.rules.now.notes.now c.args.step.now.next c.headers_at-group.result.now (c.headers_at-group.ensures ∙ c.requires.headers_fit.same c.args.step.now.next)

pub count_step-requires-clause-loops : goal.count_step-requires-clause-loops
count_step-requires-clause-loops c =
    (loops_from_filter c.args.rules.now.notes.now c.args.step.now.next c.headers_at-group.result.now (c.headers_at-group.ensures ∙ c.requires.headers_fit.same c.args.step.now.next)).loops

pub returns-in-Some-clause-watched : goal.returns-in-Some-clause-watched
returns-in-Some-clause-watched c =
    let x : Stepped = c.args.step.now in
    let items : List ℕ = c.args.counts.now.items in
    let returned : c.broken_return-of_returns.result ≡ broken_by x (returns_after (reverse c.args.returns.now.items) x) =
    c.broken_return-of_returns.ensures ∙ ap (λ (rs : List ℕ). broken_by x (returns_after (reverse rs) x)) c.deref-2.ensures.value in
    let source : c.source_of-source.result ≡ source_of x.moved x.pc (reverse c.args.returns.now.items) =
    c.source_of-source.ensures ∙ ap (λ (rs : List ℕ). source_of x.moved x.pc (reverse rs)) c.deref.ensures.value in
    let looped : c.broken_loop-of_loops.result ≡ broken_loop c.args.rules.now.notes.now items (source_of x.moved x.pc (reverse c.args.returns.now.items)) x =
    c.broken_loop-of_loops.ensures ∙ ap (λ (cs : List ℕ). broken_loop c.args.rules.now.notes.now cs c.source_of-source.result x) c.deref-3.ensures.value ∙ ap (λ (o : Option ℕ). broken_loop c.args.rules.now.notes.now items o x) source in
    rule_broken c.args.rules.now.notes.now (reverse c.args.returns.now.items) items x (returns_after (reverse c.args.returns.now.items) x)
    c.broken_return-of_returns.result c.broken_loop-of_loops.result c.in-Some.broken returned looped c.in-Some.ensures

pub returns-clause-watched : goal.returns-clause-watched
returns-clause-watched c =
    let x : Stepped = c.args.step.now in
    let items : List ℕ = c.args.counts.now.items in
    let new : List ℕ = c.count_step.new.counts in
    let group : List Header = c.headers_at-group.result.now in
    let of : AreLoopsOf c.args.rules.now.notes.now x.next group =
    loops_from_filter c.args.rules.now.notes.now x.next group (c.headers_at-group.ensures ∙ c.requires.headers_fit.same x.next) in
    let both = neither_broken c.broken_return-of_returns.result c.broken_loop-of_loops.result c.in_default.ensures in
    let none : broken_by x (returns_after (reverse c.args.returns.now.items) x) ≡ None =
    sym (c.broken_return-of_returns.ensures ∙ ap (λ (rs : List ℕ). broken_by x (returns_after (reverse rs) x)) c.deref-2.ensures.value) ∙ both.0 in
    let source : c.source_of-source.result ≡ source_of x.moved x.pc (reverse c.args.returns.now.items) =
    c.source_of-source.ensures ∙ ap (λ (rs : List ℕ). source_of x.moved x.pc (reverse rs)) c.deref.ensures.value in
    let no_loop : broken_loop c.args.rules.now.notes.now items (source_of x.moved x.pc (reverse c.args.returns.now.items)) x ≡ None =
    sym (c.broken_loop-of_loops.ensures ∙ ap (λ (cs : List ℕ). broken_loop c.args.rules.now.notes.now cs c.source_of-source.result x) c.deref-3.ensures.value ∙ ap (λ (o : Option ℕ). broken_loop c.args.rules.now.notes.now items o x) source) ∙ both.1 in
    let size : length new ≡ length c.args.rules.now.notes.now = c.count_step.ensures.size ∙ ap length c.deref_mut.ensures.value ∙ c.requires.counts_fit.size in
    let by_loop = counted_by_loop c.args.rules.now.notes.now items (source_of x.moved x.pc (reverse c.args.returns.now.items)) x.next group new of
    (λ j jl. c.count_step.ensures.each j jl ∙ ap (λ (cs : List ℕ). count_after_at c.args.rules.now.notes.now group cs c.source_of-source.result j) c.deref_mut.ensures.value ∙
    ap (λ (o : Option ℕ). count_after_at c.args.rules.now.notes.now group items o j) source)
    (λ k out. c.count_step.ensures.others k out ∙ ap (λ (cs : List ℕ). get_or cs k 0) c.deref_mut.ensures.value) in
    let back = take_at new (drop (length new) items) c.args.counts.now.len (c.count_step.ensures.size ∙ c.deref_mut.ensures.len) in
    ap (λ (cs : List ℕ). record { notes = c.args.rules.now.notes.now; returns = reverse c.move_returns.new.returns.items; counts = cs; kept = kinds.Kept }) back ∙
    step_kept c.args.rules.now.notes.now (reverse c.args.returns.now.items) items x (returns_after (reverse c.args.returns.now.items) x) (reverse c.move_returns.new.returns.items) new
    none no_loop c.move_returns.ensures.moved size by_loop

pub returns-clause-fits : goal.returns-clause-fits
returns-clause-fits c =
    let x : Stepped = c.args.step.now in
    let items : List ℕ = c.args.counts.now.items in
    let new : List ℕ = c.count_step.new.counts in
    let group : List Header = c.headers_at-group.result.now in
    let of : AreLoopsOf c.args.rules.now.notes.now x.next group =
    loops_from_filter c.args.rules.now.notes.now x.next group (c.headers_at-group.ensures ∙ c.requires.headers_fit.same x.next) in
    let both = neither_broken c.broken_return-of_returns.result c.broken_loop-of_loops.result c.in_default.ensures in
    let none : broken_by x (returns_after (reverse c.args.returns.now.items) x) ≡ None =
    sym (c.broken_return-of_returns.ensures ∙ ap (λ (rs : List ℕ). broken_by x (returns_after (reverse rs) x)) c.deref-2.ensures.value) ∙ both.0 in
    let source : c.source_of-source.result ≡ source_of x.moved x.pc (reverse c.args.returns.now.items) =
    c.source_of-source.ensures ∙ ap (λ (rs : List ℕ). source_of x.moved x.pc (reverse rs)) c.deref.ensures.value in
    let no_loop : broken_loop c.args.rules.now.notes.now items (source_of x.moved x.pc (reverse c.args.returns.now.items)) x ≡ None =
    sym (c.broken_loop-of_loops.ensures ∙ ap (λ (cs : List ℕ). broken_loop c.args.rules.now.notes.now cs c.source_of-source.result x) c.deref-3.ensures.value ∙ ap (λ (o : Option ℕ). broken_loop c.args.rules.now.notes.now items o x) source) ∙ both.1 in
    let size : length new ≡ length c.args.rules.now.notes.now = c.count_step.ensures.size ∙ ap length c.deref_mut.ensures.value ∙ c.requires.counts_fit.size in
    let by_loop = counted_by_loop c.args.rules.now.notes.now items (source_of x.moved x.pc (reverse c.args.returns.now.items)) x.next group new of
    (λ j jl. c.count_step.ensures.each j jl ∙ ap (λ (cs : List ℕ). count_after_at c.args.rules.now.notes.now group cs c.source_of-source.result j) c.deref_mut.ensures.value ∙
    ap (λ (o : Option ℕ). count_after_at c.args.rules.now.notes.now group items o j) source)
    (λ k out. c.count_step.ensures.others k out ∙ ap (λ (cs : List ℕ). get_or cs k 0) c.deref_mut.ensures.value) in
    let back = take_at new (drop (length new) items) c.args.counts.now.len (c.count_step.ensures.size ∙ c.deref_mut.ensures.len) in
    record {
      notes_fit = c.requires.notes_fit;
      headers_fit = c.requires.headers_fit;
      turning_fit = c.requires.turning_fit;
      counts_fit = subst (λ (cs : List ℕ). AreCounts c.args.rules.now.notes.now cs) (sym back) (record {
        size = size;
        bounded = λ k kl. subst (λ n. n ≤ (note_at c.args.rules.now.notes.now k).bound) (sym (by_loop k kl)) (counts_stay c.args.rules.now.notes.now items (source_of x.moved x.pc (reverse c.args.returns.now.items)) x no_loop k kl);
      });
      shallow = c.move_returns.ensures.shallow;
      spare = c.move_returns.ensures.spare;
    }
