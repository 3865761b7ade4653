use Rattle.std.proofs.Common.{◌≡◌, ◌∙◌, ap, length, subst, arith}
use Rattle.std.proofs.lemmas.Result.{err_from_is_err_and}
use Rattle.power_model.specs.Numbers.{PowerModel}
use Rattle.run_pictures.proofs.RunFacts.{image_stops, level_stops, startable_is, allowed_stop, allowed_ok, starts_at}
use Rattle.run_pictures.proofs.drawing.picture_run.Goals as goal

pub returns-in_err-view : goal.returns-in_err-view
returns-in_err-view g c =
    let p = err_from_is_err_and c.from_residual.result c.from_residual.ensures.1 in
    rw (p.1, p.2) (image_stops c.args.power.now c.args.files.now c.in_err-view.field-0.0 c.in_err-view.ensures)

pub returns-in_err-start : goal.returns-in_err-start
returns-in_err-start g c =
    let p = err_from_is_err_and c.from_residual-in_err-start.result c.from_residual-in_err-start.ensures.1 in
    rw (p.1, p.2) (level_stops c.args.power.now c.args.files.now c.in_ok-view.view c.in_err-start.field-0.0 c.in_ok-view.ensures
    (allowed_stop c.count-levels.result (length c.args.power.now.levels) _ _ _ (c.count-levels.ensures.count ∙ ap (λ (p : PowerModel). length p.levels) c.power.view_is) c.keyed-keyed.ensures c.in_err-start.ensures.allowed))

pub draw_run-requires-clause-start : goal.draw_run-requires-clause-start
draw_run-requires-clause-start g c =
    starts_at c.count-levels.result (length c.args.power.now.levels) _ _ _ (c.count-levels.ensures.count ∙ ap (λ (p : PowerModel). length p.levels) c.power.view_is) c.keyed-keyed.ensures c.in_ok-start.ensures.start

pub draw_run-requires-clause-is_level : goal.draw_run-requires-clause-is_level
draw_run-requires-clause-is_level g c =
    let levels : c.count-levels.result ≡ length c.args.power.now.levels = c.count-levels.ensures.count ∙ ap (λ (p : PowerModel). length p.levels) c.power.view_is in
    let below = c.in_ok-start.ensures.is_level in
    omega (arith, levels, below)

pub returns : goal.returns
returns g c = record {
  original = c.in_ok-view.view;
  original_is =
      startable_is c.args.power.now c.args.files.now.image.now c.in_ok-view.view c.in_ok-view.ensures
      (allowed_ok c.count-levels.result (length c.args.power.now.levels) _ _ (c.count-levels.ensures.count ∙ ap (λ (p : PowerModel). length p.levels) c.power.view_is) c.keyed-keyed.ensures c.in_ok-start.ensures.allowed);
  image_name = c.in_ok-image_name.ensures.ok;
  input_name = c.in_ok-input_name.ensures.ok;
  report = c.in_ok-drawn.ensures.report;
  bars = c.in_ok-drawn.ensures.bars;
}
