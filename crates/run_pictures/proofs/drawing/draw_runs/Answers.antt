use Rattle.std.proofs.Common.{Vec, Global}
use Rattle.std.proofs.lemmas.Result.{err_from_is_err_and}
use Rattle.run_pictures.specs.declared.picture.PictureRun.{PictureRun}
use Rattle.run_pictures.proofs.RunFacts.{machine_stops, runs_stop_all}
use Rattle.run_pictures.proofs.drawing.draw_runs.Goals as goal

pub returns-in_err-power : goal.returns-in_err-power
returns-in_err-power g c =
    let p = err_from_is_err_and c.from_residual.result c.from_residual.ensures.1 in
    rw (p.1, p.2) (machine_stops c.args.machine.now c.args.files.now c.in_err-power.field-0.0 c.in_err-power.ensures.answers)

pub returns-in_err-runs : goal.returns-in_err-runs
returns-in_err-runs g c =
    let p = err_from_is_err_and c.from_residual-in_err-runs.result c.from_residual-in_err-runs.ensures.1 in
    rw (p.1, p.2) (runs_stop_all (λ (runs : Vec PictureRun Global). runs.items) c.args.machine.now c.args.files.now c.in_ok-power.power c.in_err-runs.field-0.0 c.in_ok-power.ensures.answers c.in_err-runs.ensures)

pub returns : goal.returns
returns g c = record { power_is = c.in_ok-power.ensures.answers; runs = c.in_ok-runs.ensures }
