use Rattle.least_cycles.specs.Tables.{least_by}
use Rattle.least_cycles.specs.Found.{AreEndsTo}
use Rattle.least_cycles.proofs.numbers.ends_of.Given as goal

abbrev pub invariant-loop-k : goal.invariant-loop-k
invariant-loop-k l = AreEndsTo l.graph (least_by l.graph l.walks.returns.items l.walks.exits.items l.behind) l.k l.ends.items
