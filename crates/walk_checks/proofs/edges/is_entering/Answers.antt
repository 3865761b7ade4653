use Rattle.std.proofs.Common.{refl}
use Rattle.walk_checks.proofs.edges.is_entering.Goals as goal

pub returns : goal.returns
returns c so = record {
  called = c.if-not-is_call_elsewhere.ensures refl;
  back = c.if-not-comes_back_elsewhere.ensures refl;
  step = c.steps_enter.ensures so;
}
