use Rattle.least_cycles.specs.Charging.{AreEnteredLoops}
use Rattle.least_cycles.proofs.charges.entries_of.Given as goal

abbrev pub invariant-loop-e : goal.invariant-loop-e
invariant-loop-e l = AreEnteredLoops l.graph l.tree l.e l.entries.items
