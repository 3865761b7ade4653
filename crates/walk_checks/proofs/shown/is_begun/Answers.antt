use Rattle.std.proofs.Common.{inl, inr, refl}
use Rattle.walk_checks.proofs.shown.is_begun.Goals as goal

pub returns-then-is_own : goal.returns-then-is_own
returns-then-is_own c so nodes = inr (inl (c.if-is_own.ensures.place refl, c.if-is_own.ensures.own refl))

pub returns : goal.returns
returns c so nodes = inr (inr (c.is_own-2.ensures.place so, c.is_own-2.ensures.own so))
