use Rattle.std.proofs.Common.{◌≡◌, take}
use Rattle.std.specs.List.{sum_by}
use Rattle.image_check.specs.Uses.{exits_at}
use Rattle.image_check.proofs.uses.exits_of.Given as goal

abbrev pub invariant-loop-n : goal.invariant-loop-n
invariant-loop-n l = record {
  total : l.found ≡ sum_by (exits_at l.graph l.tree l.k) (take l.n-index l.n-items);
}
