use Rattle.loop_drafts.proofs.SameShape.{bounds_free}
use Rattle.loop_drafts.proofs.bounds_are_free.Goals as goal

pub returns : goal.returns
returns c = bounds_free
