use Rattle.std.proofs.Common.{◌≡◌, drop}
use Rattle.std.specs.List.{list_all}
use Rattle.image_lower.specs.Trees.{lacks_bit}
use Rattle.image_lower.proofs.trees.all_lack.Given as goal

abbrev pub invariant-loop-x : goal.invariant-loop-x
invariant-loop-x l = list_all (lacks_bit l.bit) (drop l.x-index l.xs) ≡ list_all (lacks_bit l.bit) l.xs
