use Rattle.std.proofs.Common.{inl, inr, refl}
use Rattle.stack_checks.proofs.lines.is_line_passed_by.Goals as goal

pub returns-then-is_line_more : goal.returns-then-is_line_more
returns-then-is_line_more c so = inr (c.args.adds, c.requires.effect, inl (c.if-is_line_more.ensures refl))

pub returns-then-is_line_compared : goal.returns-then-is_line_compared
returns-then-is_line_compared c so = inr (c.args.adds, c.requires.effect, inr (inr (c.if-not-is_nothing.ensures refl, c.if-is_line_compared.ensures refl)))

pub returns : goal.returns
returns c so = inr (c.args.adds, c.requires.effect, inr (inl (c.if-not-is_nothing.ensures refl, c.if-not-is_told_apart.ensures refl, c.is_line_without.ensures so)))
