use Rattle.least_cycles.specs.Charging.{AreHeaderKeys}
use Rattle.least_cycles.proofs.plan.header_keys.Given as goal

abbrev pub invariant-loop-i : goal.invariant-loop-i
invariant-loop-i l = AreHeaderKeys l.graph l.tree.order l.heads l.i l.keys.items
