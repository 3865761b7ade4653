use Rattle.paced_images.specs.Useful.{NoneNamed}
use Rattle.paced_images.proofs.useful.is_useful.Given as goal

abbrev pub invariant-loop-e : goal.invariant-loop-e
invariant-loop-e l = NoneNamed l.power l.marked l.site l.e
