use Rattle.std.proofs.Common.{◌≡◌, ◌++◌, drop}
use Rattle.std.specs.Prelude.{filter}
use Rattle.image_lower.specs.Trees.{has_bit}
use Rattle.image_lower.proofs.trees.having.Given as goal

abbrev pub invariant-loop-x : goal.invariant-loop-x
invariant-loop-x l = l.ys.items ++ filter (has_bit l.bit) (drop l.x-index l.xs) ≡ filter (has_bit l.bit) l.xs
