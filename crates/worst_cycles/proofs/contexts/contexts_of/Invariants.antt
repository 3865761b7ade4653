use Rattle.std.proofs.Common.{◌≡◌, ◌≤◌, length}
use Rattle.worst_cycles.specs.Worst.{by_edge}
use Rattle.worst_cycles.specs.Lefts.{AreContextsTo}
use Rattle.worst_cycles.proofs.contexts.contexts_of.Given as goal

abbrev pub invariant-loop-i : goal.invariant-loop-i
invariant-loop-i l = record {
  within : l.i ≤ length l.visited.planned.plan.now.order.items;
  size : length l.context.items ≡ length l.visited.planned.graph.now.code.functions;
  contexts : AreContextsTo l.visited.planned.graph.now l.visited.planned.tree.now (by_edge l.visited.planned.weights.now) l.visited.planned.plan.now l.i l.context.items;
}

abbrev pub decreases-loop-i : goal.decreases-loop-i
decreases-loop-i l = l.i
