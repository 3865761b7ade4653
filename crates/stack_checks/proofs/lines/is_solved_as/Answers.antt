use Rattle.std.proofs.Common.{inl, inr, refl}
use Rattle.stack_checks.proofs.lines.is_solved_as.Goals as goal

pub returns-then-is_held_as : goal.returns-then-is_held_as
returns-then-is_held_as c so = inl (c.if-is_held_as.ensures refl)

pub returns : goal.returns
returns c so = inr (c.is_met_as.ensures so)
