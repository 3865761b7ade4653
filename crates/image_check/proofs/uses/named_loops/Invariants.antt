use Rattle.image_check.specs.Uses.{AreNamed}
use Rattle.image_check.proofs.uses.named_loops.Given as goal

abbrev pub invariant-loop-e : goal.invariant-loop-e
invariant-loop-e l = AreNamed l.graph l.tree l.sites l.e l.owners.items
