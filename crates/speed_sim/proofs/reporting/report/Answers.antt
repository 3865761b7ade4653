use Rattle.std.proofs.Common.{◌∙◌, ap, sym, length, Some}
use Rattle.scale_base.specs.declared.endings.Kept.{Kept}
use Rattle.scale_base.specs.Run.{setting_of, start_of}
use Rattle.keep_monitor.specs.Watch.{Watched, watch}
use Rattle.speed_sim.specs.Seen.{seen_from}
use Rattle.speed_sim.specs.Simulated.{report_of}
use Rattle.speed_sim.proofs.SeenLaws.{monitor_seen}
use Rattle.speed_sim.proofs.ReportLaws.{with_kept}
use Rattle.speed_sim.proofs.reporting.report.Goals as goal

pub returns : goal.returns
returns g c =
    let power = c.args.given.now.power.now in
    let view = c.args.given.now.view.now in
    let input = c.args.input.now in
    let levels = length power.levels in
    let env = setting_of view levels input in
    let first = start_of view levels in
    with_kept power view input (Some c.in-Some.notes) _ _ c.in_ok-report.ensures.report
    (ap (λ (k : Kept). Some k) (c.kept.ensures ∙ ap (λ (w : Watched). w.kept)
    (c.in_ok-report.ensures.watched ∙ (ap (λ (w : Watched). seen_from env first watch w power.steps) c.in_ok-monitor.ensures ∙ monitor_seen env first c.in-Some.notes power.steps))))
    ∙ sym (ap (report_of power view input) c.in-Some.is)
