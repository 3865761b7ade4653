use Rattle.std.proofs.Common.{refl}
use Rattle.walk_checks.proofs.edges.is_live_so.Goals as goal

pub returns : goal.returns
returns c so = record {
  led = c.if-not-leads_so.ensures refl;
  called = c.if-not-calls_so.ensures refl;
  begins = c.if-not-begins_so.ensures refl;
  sound = c.is_sound_or_outside.ensures so;
}
