use Rattle.std.proofs.Common.{◌≡◌, ◌++◌, drop}
use Rattle.std.specs.Prelude.{filter}
use Rattle.image_lower.specs.Trees.{lacks_bit}
use Rattle.image_lower.proofs.trees.lacking.Given as goal

abbrev pub invariant-loop-x : goal.invariant-loop-x
invariant-loop-x l = l.ys.items ++ filter (lacks_bit l.bit) (drop l.x-index l.xs) ≡ filter (lacks_bit l.bit) l.xs
