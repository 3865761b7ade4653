use Rattle.run_pictures.proofs.RunFacts.{AreRunsSoFar}
use Rattle.run_pictures.proofs.drawing.picture_runs.Given as goal

abbrev pub invariant-loop-pair : goal.invariant-loop-pair
invariant-loop-pair g l = AreRunsSoFar l.power l.files l.pair-index l.runs.items
