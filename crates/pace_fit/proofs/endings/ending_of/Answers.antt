use Rattle.std.proofs.Common.{◌*◌, ◌^◌, ◌≤◌, sym, ap, ◌∙◌, subst, arith}
use Rattle.power_model.specs.declared.report.RunReport.{RunReport}
use Rattle.power_model.specs.Report.{report_view}
use Rattle.gain_tuner.proofs.Laws.{original_runs}
use Rattle.pace_fit.specs.declared.endings.Ending.{Ending}
use Rattle.pace_fit.specs.Endings.{ending_by}
use Rattle.pace_fit.proofs.Cycles.{steps_most}
use Rattle.pace_fit.proofs.endings.ending_of.Goals as goal

abbrev shown : RunReport → Ending
shown r = record { end = r.end; kept = r.kept; cycles = r.meter.cycles }

pub report_of-requires : goal.report_of-requires
report_of-requires g c = original_runs c.args.given.now.image.now c.args.given.now.machine.now c.args.given.now.loops.now c.requires.0.0 c.requires.0.1 c.requires.1 c.args.input.now

pub returns-clause-ending : goal.returns-clause-ending
returns-clause-ending g c = ap shown c.report.view_is ∙ ap ending_by (sym c.in_ok-report.ensures)

pub returns-clause-small : goal.returns-clause-small
returns-clause-small g c =
    let all = steps_most c.args.given.now.image.now c.args.given.now.machine.now c.args.given.now.loops.now c.args.input.now (report_view c.in_ok-report.report) c.requires c.in_ok-report.ensures in
    let most : c.report.inside.0.1.0.steps ≤ 2 ^ 40 = subst (λ n. n ≤ 2 ^ 40) (sym (ap (λ (r : RunReport). r.meter.steps) c.report.view_is)) all in
    let bound : c.report.inside.0.1.0.cycles ≤ 65535 * c.report.inside.0.1.0.steps = c.report.invariant.cycles in
    omega (arith, most, bound)
