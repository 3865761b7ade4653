use Rattle.std.proofs.Common.{◌≡◌, map, take}
use Rattle.loop_tree.proofs.assembling.bounds_of.Given as goal

abbrev pub invariant-loop-k : goal.invariant-loop-k
invariant-loop-k l = l.bounds.items ≡ map (λ note. note.bound) (take l.k l.notes)
