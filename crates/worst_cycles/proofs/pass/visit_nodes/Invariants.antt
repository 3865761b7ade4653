use Rattle.worst_cycles.specs.Worst.{by_edge}
use Rattle.worst_cycles.specs.Visits.{AreVisits, AreVisitedTo}
use Rattle.worst_cycles.proofs.pass.visit_nodes.Given as goal

abbrev pub invariant-loop-i : goal.invariant-loop-i
invariant-loop-i l = record {
  table : AreVisits l.planned.graph.now l.visits.items;
  visited : AreVisitedTo l.planned.graph.now l.planned.tree.now (by_edge l.planned.weights.now) l.planned.plan.now.order.items l.i l.visits.items;
}
