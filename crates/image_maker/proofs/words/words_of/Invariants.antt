use Rattle.image_maker.specs.Places.{AreWords}
use Rattle.image_maker.proofs.words.words_of.Given as goal

abbrev pub invariant-loop-k : goal.invariant-loop-k
invariant-loop-k l = AreWords l.lines l.k l.words.items
