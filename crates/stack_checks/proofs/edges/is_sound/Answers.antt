use Rattle.std.proofs.Common.{refl}
use Rattle.stack_checks.proofs.edges.is_sound.Goals as goal

pub returns : goal.returns
returns c so = record {
  step = c.if-not-is_step_checked.ensures refl;
  call = c.if-not-is_call_checked.ensures refl;
  returns = c.if-not-is_return_checked.ensures refl;
  back = c.if-not-is_back_checked.ensures refl;
  spared_calls = c.if-not-is_spared_called.ensures refl;
  spares = c.if-not-is_sparing_checked.ensures refl;
  cells = c.are_cells_kept.ensures so;
}
