use Rattle.std.proofs.Common.{◌≡◌, ◌<◌, ℕ, true, take}
use Rattle.cost_theory.specs.Lists.{is_among}
use Rattle.graph_algorithms.specs.Bodies.{in_node_ranges}
use Rattle.loop_tree.proofs.trips.has_ranges.Given as goal

abbrev pub invariant-loop-range : goal.invariant-loop-range
invariant-loop-range l = (k : ℕ) → in_node_ranges (take l.range-index l.ranges) k ≡ true → k < l.count → is_among k l.numbers ≡ true
