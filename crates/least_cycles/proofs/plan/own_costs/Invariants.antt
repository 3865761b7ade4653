use Rattle.least_cycles.specs.Found.{AreOwn}
use Rattle.least_cycles.proofs.plan.own_costs.Given as goal

abbrev pub invariant-loop-e : goal.invariant-loop-e
invariant-loop-e l = AreOwn l.e l.weights l.own.items
