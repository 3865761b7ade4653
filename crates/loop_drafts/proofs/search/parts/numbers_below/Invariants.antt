use Rattle.loop_drafts.specs.Numbered.{AreNumbers}
use Rattle.loop_drafts.proofs.search.parts.numbers_below.Given as goal

abbrev pub invariant-loop-k : goal.invariant-loop-k
invariant-loop-k l = AreNumbers l.k l.count l.numbers.items
