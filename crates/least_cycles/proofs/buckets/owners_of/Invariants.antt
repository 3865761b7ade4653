use Rattle.least_cycles.specs.Tables.{AreOwnerKeys}
use Rattle.least_cycles.proofs.buckets.owners_of.Given as goal

abbrev pub invariant-loop-k : goal.invariant-loop-k
invariant-loop-k l = AreOwnerKeys l.graph l.k l.keys.items
