use Rattle.std.proofs.Common.{◌≡◌, ◌∙◌, ℕ, List, Option, None, sym, ap, reverse}
use Rattle.scale_base.specs.declared.stepping.Stepped.{Stepped}
use Rattle.graph_runs.specs.ReturnAddresses.{returns_after}
use Rattle.graph_runs.specs.KeptSteps.{source_of}
use Rattle.keep_monitor.specs.Steps.{broken_by, broken_loop}
use Rattle.keep_monitor.specs.Watch.{Watched}
use Rattle.keep_monitor.proofs.StepLaws.{rule_broken, neither_broken}
use Rattle.keep_monitor.proofs.CounterLaws.{judged_kept}
use Rattle.keep_monitor.proofs.counter.judge_step.Goals as goal

pub returns-in-Some : goal.returns-in-Some
returns-in-Some c =
    let x : Stepped = c.args.arrival.now.step.now in
    let returns : List ℕ = reverse c.args.returns.now in
    let looped : c.broken_loop-of_loops.result ≡ broken_loop c.args.rules.now.notes.now c.args.counts.now (source_of x.moved x.pc returns) x =
    c.broken_loop-of_loops.ensures ∙ ap (λ (o : Option ℕ). broken_loop c.args.rules.now.notes.now c.args.counts.now o x) c.source_of-source.ensures in
    ap (λ (w : Watched). w.kept) (rule_broken c.args.rules.now.notes.now returns c.args.counts.now x (returns_after returns x) c.broken_return-of_returns.result c.broken_loop-of_loops.result c.in-Some.broken
    c.broken_return-of_returns.ensures looped c.in-Some.ensures)

pub returns-in-None : goal.returns-in-None
returns-in-None c =
    let x : Stepped = c.args.arrival.now.step.now in
    let returns : List ℕ = reverse c.args.returns.now in
    let both = neither_broken c.broken_return-of_returns.result c.broken_loop-of_loops.result c.in-None.ensures in
    let none : broken_by x (returns_after returns x) ≡ None = sym c.broken_return-of_returns.ensures ∙ both.0 in
    let no_loop : broken_loop c.args.rules.now.notes.now c.args.counts.now (source_of x.moved x.pc returns) x ≡ None =
    sym (c.broken_loop-of_loops.ensures ∙ ap (λ (o : Option ℕ). broken_loop c.args.rules.now.notes.now c.args.counts.now o x) c.source_of-source.ensures) ∙ both.1 in
    judged_kept c.args.rules.now.notes.now returns c.args.counts.now x none no_loop
