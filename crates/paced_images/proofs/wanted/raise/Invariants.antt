use Rattle.paced_images.specs.Flags.{AreRaised}
use Rattle.paced_images.proofs.wanted.raise.Given as goal

abbrev pub invariant-loop-e : goal.invariant-loop-e
invariant-loop-e l = AreRaised l.graph l.site l.e l.fn.flags.items l.flags.items
