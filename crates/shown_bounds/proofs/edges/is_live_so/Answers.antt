use Rattle.std.proofs.Common.{refl}
use Rattle.shown_bounds.proofs.edges.is_live_so.Goals as goal

pub returns : goal.returns
returns c so = record {
  leads = c.if-not-leads_so.ensures refl;
  steps = c.if-not-steps_so.ensures refl;
  calls = c.calls_so.ensures so;
}
