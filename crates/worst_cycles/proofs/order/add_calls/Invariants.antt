use Rattle.worst_cycles.specs.Needs.{AreNeeds}
use Rattle.worst_cycles.proofs.order.add_calls.Given as goal

abbrev pub invariant-loop-e : goal.invariant-loop-e
invariant-loop-e l = AreNeeds l.graph l.tree.backs l.entries l.e l.arcs.items
