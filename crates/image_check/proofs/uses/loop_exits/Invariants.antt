use Rattle.image_check.specs.Uses.{AreExits}
use Rattle.image_check.proofs.uses.loop_exits.Given as goal

abbrev pub invariant-loop-k : goal.invariant-loop-k
invariant-loop-k l = AreExits l.graph l.tree l.k l.exits.items
