use Rattle.std.proofs.Common.{ap, ◌∙◌}
use Rattle.std.specs.Prelude.{map}
use Rattle.std.proofs.lemmas.Result.{err_from_is_err_and}
use Rattle.gain_tuner.proofs.Laws.{items_of}
use Rattle.pace_fit.specs.Endings.{is_counted}
use Rattle.pace_fit.proofs.Numbers.{held_stops, preparing_stops}
use Rattle.pace_fit.proofs.Runs.{flags_are}
use Rattle.pace_fit.proofs.preparing.prepare.Goals as goal

pub endings_of-requires : goal.endings_of-requires
endings_of-requires g c = ((c.in_ok-held.held.0.items, c.in_ok-held.held.1), c.in_ok-held.ensures.given)

pub returns-in_err-power : goal.returns-in_err-power
returns-in_err-power g c =
    let p = err_from_is_err_and c.from_residual.result c.from_residual.ensures.1 in
    rw (p.1, p.2) (preparing_stops c.args.files.now.image.now c.args.files.now.machine.now c.args.files.now.loops.now (items_of c.args.files.now.inputs.now) c.in_err-power.field-0.0 c.in_err-power.ensures.answers)

pub returns : goal.returns
returns g c = record {
  power_is = c.in_ok-power.ensures.answers;
  in_range = c.in_ok-power.ensures.in_range;
  held = c.in_ok-held.ensures.given;
  endings = c.in_ok-endings.ensures.endings;
  small = c.in_ok-endings.ensures.small;
  flags = c.in_ok-flags.ensures ∙ (ap (map is_counted) (c.deref.ensures.value ∙ c.in_ok-endings.ensures.endings) ∙ flags_are c.args.files.now.image.now c.args.files.now.machine.now c.args.files.now.loops.now (items_of c.args.files.now.inputs.now));
}
