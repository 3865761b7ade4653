use Rattle.std.proofs.Common.{inl, inr}
use Rattle.lower_bounds.proofs.words.is_left_in.Goals as goal

pub returns : goal.returns
returns c so = (c.word-before.result.arc, inr (inl (c.requires.missed, c.word-before.ensures.arc)), c.is_scaled_to.ensures so)
