use Rattle.std.proofs.Common.{◌≡◌, ◌∙◌, sym, ap, refl, reverse}
use Rattle.scale_base.specs.declared.endings.Kept.{Kept}
use Rattle.keep_monitor.specs.Watch.{Watched}
use Rattle.keep_monitor.specs.Counted.{judged}
use Rattle.keep_monitor.proofs.AlikeLaws.{going_with}
use Rattle.keep_monitor.proofs.StepLaws.{watch_goes_on}
use Rattle.keep_monitor.proofs.counter.judge.Goals as goal

pub returns-in-Kept : goal.returns-in-Kept
returns-in-Kept c =
    c.judge_step.ensures ∙ (ap (λ (w : Watched). w.kept) (watch_goes_on (going_with c.args.rules.now.notes.now (reverse c.args.returns.now) c.args.counts.now) c.args.arrival.now.step.now refl) ∙
    ap (λ (k : Kept). judged c.args.rules.now.notes.now k (going_with c.args.rules.now.notes.now (reverse c.args.returns.now) c.args.counts.now) c.args.arrival.now.step.now) (sym c.in-Kept.is))
