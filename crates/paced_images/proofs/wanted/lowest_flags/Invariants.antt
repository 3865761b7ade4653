use Rattle.std.proofs.Common.{length, take}
use Rattle.paced_images.specs.Flags.{AreLowest}
use Rattle.paced_images.proofs.wanted.lowest_flags.Given as goal

abbrev pub invariant-loop-site : goal.invariant-loop-site
invariant-loop-site l = AreLowest l.graph (take l.site-index l.sites) (length l.graph.code.edges) l.flags.items
