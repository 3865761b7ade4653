use Rattle.least_cycles.specs.Tables.{least_by}
use Rattle.least_cycles.specs.Charging.{charge_by}
use Rattle.least_cycles.specs.Found.{AreAfterTo}
use Rattle.least_cycles.proofs.numbers.after_of.Given as goal

abbrev pub invariant-loop-e : goal.invariant-loop-e
invariant-loop-e l = AreAfterTo l.graph (least_by l.graph l.walks.returns.items l.walks.exits.items l.behind) (charge_by l.charges.entries.items l.charges.found.items) l.e l.after.items
