use Rattle.graph_algorithms.proofs.GroupLaws.{AreHeadersBelow}
use Rattle.graph_algorithms.proofs.bodies.groups.find_headers.Given as goal

abbrev pub invariant-loop-bit : goal.invariant-loop-bit
invariant-loop-bit l = AreHeadersBelow l.loops l.count l.bit l.headers.items
