use Rattle.std.proofs.Common.{refl}
use Rattle.stack_checks.proofs.Confirmed.{analysed}
use Rattle.stack_checks.proofs.starting.is_stack_analysed.Goals as goal

pub returns : goal.returns
returns c so = analysed c.args.claim.now c.requires (c.if-not-is_plain.ensures refl) (c.if-not-is_started.ensures refl) (c.if-not-are_areas.ensures refl) (c.if-not-are_cells_started.ensures refl) (c.if-not-are_fixed.ensures.unwritten refl) (c.if-not-are_fixed.ensures.fixed refl) (c.is_confirmed.ensures so)
