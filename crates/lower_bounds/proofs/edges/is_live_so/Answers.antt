use Rattle.std.proofs.Common.{refl}
use Rattle.lower_bounds.proofs.edges.is_live_so.Goals as goal

pub returns : goal.returns
returns c so = record {
  led = c.if-not-leads_so.ensures refl;
  called = c.if-not-calls_so.ensures refl;
  step = c.if-not-steps_so.ensures refl;
  back = c.comes_back_so.ensures so;
}
