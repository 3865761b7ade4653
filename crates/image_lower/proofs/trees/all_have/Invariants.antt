use Rattle.std.proofs.Common.{◌≡◌, drop}
use Rattle.std.specs.List.{list_all}
use Rattle.image_lower.specs.Trees.{has_bit}
use Rattle.image_lower.proofs.trees.all_have.Given as goal

abbrev pub invariant-loop-x : goal.invariant-loop-x
invariant-loop-x l = list_all (has_bit l.bit) (drop l.x-index l.xs) ≡ list_all (has_bit l.bit) l.xs
