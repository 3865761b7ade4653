use Rattle.least_cycles.specs.Tables.{AreReturns}
use Rattle.least_cycles.proofs.plan.returns_of.Given as goal

abbrev pub invariant-loop-e : goal.invariant-loop-e
invariant-loop-e l = AreReturns l.graph l.e l.flags.items
