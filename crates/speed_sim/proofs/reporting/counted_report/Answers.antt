use Rattle.std.proofs.Common.{◌∙◌, ap, length, Some}
use Rattle.scale_base.specs.declared.endings.Kept.{Kept}
use Rattle.scale_base.specs.Run.{setting_of, start_of}
use Rattle.keep_monitor.specs.Counted.{Counted, counted}
use Rattle.keep_monitor.proofs.Laws.{counted_is}
use Rattle.speed_sim.specs.Seen.{seen_from}
use Rattle.speed_sim.proofs.SeenLaws.{counter_seen}
use Rattle.speed_sim.proofs.ReportLaws.{with_kept}
use Rattle.speed_sim.proofs.reporting.counted_report.Goals as goal

pub returns-clause-counted : goal.returns-clause-counted
returns-clause-counted g c =
    let levels = length c.args.given.now.power.now.levels in
    let env = setting_of c.args.given.now.view.now levels c.args.input.now in
    let first = start_of c.args.given.now.view.now levels in
    c.in_ok-report.ensures.watched ∙ (ap (λ (d : Counted). seen_from env first counted d c.args.given.now.power.now.steps) c.begin.ensures.new ∙
    counter_seen env first c.args.counter.now.notes c.args.counter.now.most c.args.given.now.power.now.steps)

pub returns-clause-report : goal.returns-clause-report
returns-clause-report g c =
    let levels = length c.args.given.now.power.now.levels in
    let env = setting_of c.args.given.now.view.now levels c.args.input.now in
    let first = start_of c.args.given.now.view.now levels in
    let counting = c.in_ok-report.ensures.watched ∙ (ap (λ (d : Counted). seen_from env first counted d c.args.given.now.power.now.steps) c.begin.ensures.new ∙
    counter_seen env first c.args.counter.now.notes c.args.counter.now.most c.args.given.now.power.now.steps) in
    with_kept c.args.given.now.power.now c.args.given.now.view.now c.args.input.now (Some c.args.counter.now.notes) _ _ c.in_ok-report.ensures.report
    (ap (λ (k : Kept). Some k) (c.kept.ensures ∙ (ap (λ (d : Counted). d.kept) counting ∙
    (counted_is env first c.args.counter.now.notes c.args.counter.now.most c.begin.ensures.notes c.begin.ensures.size c.args.given.now.power.now.steps).kept_is)))
