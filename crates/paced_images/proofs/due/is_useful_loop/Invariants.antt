use Rattle.paced_images.specs.Useful.{NoneDue}
use Rattle.paced_images.proofs.due.is_useful_loop.Given as goal

abbrev pub invariant-loop-e : goal.invariant-loop-e
invariant-loop-e l = NoneDue l.power l.marked l.header l.e
