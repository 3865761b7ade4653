use Rattle.std.proofs.Common.{◌∙◌, ap, length}
use Rattle.power_model.specs.Numbers.{PowerModel}
use Rattle.speed_sim.proofs.ReportLaws.{image_setting, image_start, paid_start, reported, seen_there}
use Rattle.speed_sim.proofs.reporting.watched_with_progress.Goals as goal

pub held-requires : goal.held-requires
held-requires g c = paid_start c.args.given.now.power.now c.args.given.now.start c.args.given.now.power.now.steps _ _ _ c.requires.is_level c.run_machine-end.ensures.paid

pub returns-clause-report : goal.returns-clause-report
returns-clause-report g c =
    let levels = length c.args.given.now.power.now.levels in
    reported c.args.given.now.power.now c.args.given.now.view.now c.args.input.now c.args.given.now.start _ _ _ _ _ _
    c.requires.start
    (c.in_ok-machine.ensures.setting ∙ image_setting _ levels _ _ _ _ c.in_ok-memory.ensures.layout (c.count-levels.ensures.count ∙ ap (λ (p : PowerModel). length p.levels) c.power.view_is) c.in_ok-input.ensures.items)
    (c.in_ok-machine.ensures.state ∙ image_start _ levels _ _ _ c.in_ok-memory.ensures.bytes c.entry.ensures c.requires.start)
    c.run_machine-end.ensures.end c.run_machine-end.ensures.paid c.run_machine-end.ensures.state
    c.held.ensures

pub returns-clause-watched : goal.returns-clause-watched
returns-clause-watched g c =
    let levels = length c.args.given.now.power.now.levels in
    c.run_machine-end.ensures.watched ∙ seen_there c.args.given.now.view.now levels c.args.input.now _ _ _ _ _
    (c.in_ok-machine.ensures.setting ∙ image_setting _ levels _ _ _ _ c.in_ok-memory.ensures.layout (c.count-levels.ensures.count ∙ ap (λ (p : PowerModel). length p.levels) c.power.view_is) c.in_ok-input.ensures.items)
    (c.in_ok-machine.ensures.state ∙ image_start _ levels _ _ _ c.in_ok-memory.ensures.bytes c.entry.ensures c.requires.start)
