use Rattle.image_maker.specs.Places.{ArePlaced}
use Rattle.image_maker.proofs.labels.place_labels.Given as goal

abbrev pub invariant-loop-k : goal.invariant-loop-k
invariant-loop-k l = ArePlaced l.lines l.k l.labels.table l.labels.twice l.labels.at
