use Rattle.std.proofs.Common.{◌≡◌, ◌≤◌, ◌*◌, take}
use Rattle.std.specs.List.{sum_by}
use Rattle.power_model.specs.Price.{cycles_of}
use Rattle.image_check.specs.Weights.{foreign_cost}
use Rattle.image_check.proofs.weights.fragments_cycles.Given as goal

abbrev pub invariant-loop-fragment : goal.invariant-loop-fragment
invariant-loop-fragment l = record {
  total : l.total ≡ sum_by (foreign_cost (cycles_of l.costs)) (take l.fragment-index l.fragments);
  small : l.total ≤ l.fragment-index * (16 * 65535);
}
