use Rattle.std.proofs.Common.{inl, inr, refl}
use Rattle.stack_checks.proofs.made.is_line_from.Goals as goal

pub returns-then-is_line_before : goal.returns-then-is_line_before
returns-then-is_line_before c so = inl (c.if-is_line_before.ensures refl)

pub returns : goal.returns
returns c so = inr (c.is_line_by.ensures so)
