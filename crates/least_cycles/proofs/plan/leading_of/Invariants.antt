use Rattle.least_cycles.specs.Tables.{AreLeading}
use Rattle.least_cycles.proofs.plan.leading_of.Given as goal

abbrev pub invariant-loop-e : goal.invariant-loop-e
invariant-loop-e l = AreLeading l.graph l.e l.flags.items
