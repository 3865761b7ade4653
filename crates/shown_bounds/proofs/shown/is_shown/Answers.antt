use Rattle.std.proofs.Common.{inl, inr}
use Rattle.shown_bounds.proofs.shown.is_shown.Goals as goal

pub returns-in-Some-default : goal.returns-in-Some-default
returns-in-Some-default c so notes k same = inr (inr (c.is_walk_shown.ensures so notes k same))

pub returns-in-None-Some : goal.returns-in-None-Some
returns-in-None-Some c so notes k same = inr (inl (c.is_turn_shown.ensures so notes k same))

pub returns-in-None-None : goal.returns-in-None-None
returns-in-None-None c so notes k same = inl (c.is_counted.ensures so notes k same)
