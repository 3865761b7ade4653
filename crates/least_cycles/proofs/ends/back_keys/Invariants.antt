use Rattle.least_cycles.specs.Tables.{AreBackKeys}
use Rattle.least_cycles.proofs.ends.back_keys.Given as goal

abbrev pub invariant-loop-e : goal.invariant-loop-e
invariant-loop-e l = AreBackKeys l.graph l.e l.keys.items
