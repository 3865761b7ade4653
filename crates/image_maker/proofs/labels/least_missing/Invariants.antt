use Rattle.image_maker.specs.Places.{IsFirst, IsMissingSoFar}
use Rattle.image_maker.proofs.labels.least_missing.Given as goal

abbrev pub invariant-loop-k : goal.invariant-loop-k
invariant-loop-k l = IsFirst (IsMissingSoFar l.lines l.k) l.missing
