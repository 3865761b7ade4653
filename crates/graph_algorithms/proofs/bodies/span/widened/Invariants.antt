use Rattle.graph_algorithms.proofs.SpanLaws.{AreJoined}
use Rattle.graph_algorithms.proofs.bodies.span.widened.Given as goal

abbrev pub invariant-loop-part : goal.invariant-loop-part
invariant-loop-part l = AreJoined l.fn.range l.extent l.part-index l.whole
