use Rattle.graph_algorithms.proofs.InsideLaws.{AreMarkedBelow}
use Rattle.graph_algorithms.proofs.bodies.inside.mark_changes.Given as goal

abbrev pub invariant-loop-range : goal.invariant-loop-range
invariant-loop-range l = AreMarkedBelow l.extent l.bit l.fn.changes l.range-index l.changes
