use Rattle.keep_monitor.specs.Slots.{AreSlotsOf}
use Rattle.keep_monitor.proofs.slots.header_slots.Given as goal

abbrev pub invariant-loop-k : goal.invariant-loop-k
invariant-loop-k l = AreSlotsOf l.notes l.k l.slots.items
