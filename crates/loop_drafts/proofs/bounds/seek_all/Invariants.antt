use Rattle.loop_drafts.specs.Sought.{AreFoundBy, AreLeastFoundBy, AreReturnsFoundBy}
use Rattle.loop_drafts.proofs.bounds.seek_all.Given as goal

abbrev pub invariant-loop-k : goal.invariant-loop-k
invariant-loop-k l = AreFoundBy l.sources.most l.claim l.bounds.notes.items × AreLeastFoundBy l.claim l.bounds.notes.items × AreReturnsFoundBy l.claim l.bounds.returns
