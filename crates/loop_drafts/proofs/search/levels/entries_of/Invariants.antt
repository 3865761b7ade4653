use Rattle.std.proofs.Common.{◌<◌, length, All}
use Rattle.loop_drafts.proofs.search.levels.entries_of.Given as goal

abbrev pub invariant-loop-node : goal.invariant-loop-node
invariant-loop-node l = All (λ v. v < length l.entered) l.entries.items
