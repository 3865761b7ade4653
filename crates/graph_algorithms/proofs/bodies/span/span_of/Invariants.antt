use Rattle.graph_algorithms.proofs.SpanLaws.{AreSpanned}
use Rattle.graph_algorithms.proofs.bodies.span.span_of.Given as goal

abbrev pub invariant-loop-one : goal.invariant-loop-one
invariant-loop-one l = AreSpanned l.loops l.one-index l.whole
