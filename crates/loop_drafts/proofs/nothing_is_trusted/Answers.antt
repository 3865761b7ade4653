use Rattle.loop_drafts.proofs.Untrusting.{nothing_trusted}
use Rattle.loop_drafts.proofs.nothing_is_trusted.Goals as goal

pub returns : goal.returns
returns c = nothing_trusted
