use Rattle.std.proofs.Common.{◌≡◌, ◌≤◌, length}
use Rattle.worst_cycles.specs.Worst.{by_edge}
use Rattle.worst_cycles.specs.Lefts.{AreLeftsTo}
use Rattle.worst_cycles.proofs.lefts.lefts_of.Given as goal

abbrev pub invariant-loop-i : goal.invariant-loop-i
invariant-loop-i l = record {
  within : l.i ≤ length l.visited.planned.plan.now.order.items;
  size : length l.left.items ≡ length l.visited.planned.graph.now.code.nodes;
  lefts : AreLeftsTo l.visited.planned.graph.now l.visited.planned.tree.now (by_edge l.visited.planned.weights.now) l.visited.planned.plan.now l.i l.left.items;
}

abbrev pub decreases-loop-i : goal.decreases-loop-i
decreases-loop-i l = l.i
