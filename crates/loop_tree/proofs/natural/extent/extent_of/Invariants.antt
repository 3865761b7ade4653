use Rattle.loop_tree.proofs.ExtentLaws.{AreFirstRanges}
use Rattle.loop_tree.proofs.natural.extent.extent_of.Given as goal

abbrev pub invariant-loop-k : goal.invariant-loop-k
invariant-loop-k l = AreFirstRanges l.graph l.note l.k l.extent.items
