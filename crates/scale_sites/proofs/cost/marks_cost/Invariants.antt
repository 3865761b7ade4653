use Rattle.std.proofs.Common.{◌≡◌, ◌≤◌, ◌+◌, ◌*◌, length, drop}
use Rattle.scale_sites.specs.Weights.{marks_cost}
use Rattle.scale_sites.proofs.cost.marks_cost.Given as goal

abbrev pub invariant-loop-k : goal.invariant-loop-k
invariant-loop-k l = record {
  below : l.k ≤ length l.marks;
  total : l.total ≡ marks_cost l.costs (drop l.k l.marks);
  small : l.total + l.k * (16 * 65535) ≤ 1600 * (16 * 65535);
}

abbrev pub decreases-loop-k : goal.decreases-loop-k
decreases-loop-k l = l.k
