use Rattle.std.proofs.Common.{◌≡◌, map, take}
use Rattle.loop_tree.proofs.assembling.counted_of.Given as goal

abbrev pub invariant-loop-k : goal.invariant-loop-k
invariant-loop-k l = l.counted.items ≡ map (λ note. note.counted) (take l.k l.notes)
