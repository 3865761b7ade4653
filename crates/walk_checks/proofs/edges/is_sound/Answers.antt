use Rattle.std.proofs.Common.{refl}
use Rattle.walk_checks.proofs.edges.is_sound.Goals as goal

pub returns : goal.returns
returns c so = record {
  step = c.if-not-steps_so.ensures refl;
  back = c.comes_back_so.ensures so;
}
