use Rattle.std.proofs.Common.{rules}
use Rattle.std.proofs.lemmas.Result.{err_from_is_err_and}
use Rattle.program_sources.proofs.Parts.{machine_stops, image_stops, key_stops, original_is}
use Rattle.program_sources.proofs.reading.OriginalImage.read.Goals as goal

pub returns-in_err-power-clause-original : goal.returns-in_err-power-clause-original
returns-in_err-power-clause-original c =
    let p = err_from_is_err_and c.from_residual.result c.from_residual.ensures.1 in
    rw (p.1, p.2) (machine_stops c.args.image.now c.args.machine.now c.in_err-power.field-0.0 c.in_err-power.ensures.answers)

pub returns-in_err-view-clause-original : goal.returns-in_err-view-clause-original
returns-in_err-view-clause-original c =
    let p = err_from_is_err_and c.from_residual-in_err-view.result c.from_residual-in_err-view.ensures.1 in
    rw (p.1, p.2) (image_stops c.args.image.now c.args.machine.now c.in_ok-power.power c.in_ok-power.ensures.answers c.in_err-view.field-0.0 c.in_err-view.ensures)

pub returns-in_err-check_unscaled-clause-original : goal.returns-in_err-check_unscaled-clause-original
returns-in_err-check_unscaled-clause-original c =
    let p = err_from_is_err_and c.from_residual-in_err-check_unscaled.result c.from_residual-in_err-check_unscaled.ensures.1 in
    rw (p.1, p.2) (key_stops c.args.image.now c.args.machine.now c.in_ok-power.power c.in_ok-power.ensures.answers c.in_ok-view.view c.in_ok-view.ensures c.in_err-check_unscaled.field-0.0 (search rules))

pub returns-clause-original : goal.returns-clause-original
returns-clause-original c = original_is c.args.image.now c.args.machine.now c.in_ok-power.power c.in_ok-power.ensures.answers c.in_ok-view.view c.in_ok-view.ensures (search rules)
