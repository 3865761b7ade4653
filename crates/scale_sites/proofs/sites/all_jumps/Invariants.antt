use Rattle.std.proofs.Common.{map, Vec, Global}
use Rattle.scale_base.specs.declared.fragments.Mark.{Mark}
use Rattle.scale_sites.specs.Sites.{AreJumps}
use Rattle.scale_sites.proofs.sites.all_jumps.Given as goal

abbrev pub invariant-loop-e : goal.invariant-loop-e
invariant-loop-e l = AreJumps l.graph (map (λ (m : Vec Mark Global). m.items) l.marks) l.e l.jumps.items
