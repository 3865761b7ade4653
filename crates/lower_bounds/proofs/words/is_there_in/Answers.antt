use Rattle.std.proofs.Common.{inl}
use Rattle.lower_bounds.proofs.words.is_there_in.Goals as goal

pub returns : goal.returns
returns c so = (c.word-behind.result.arc, inl c.word-behind.ensures.arc, c.is_scaled_to.ensures so)
