use Rattle.graph_algorithms.specs.Groups.{AreBitsSettled, IsTurn}
use Rattle.graph_algorithms.proofs.GroupLaws.{AreBitsBelow}
use Rattle.graph_algorithms.proofs.bodies.sweep.start_loops.Given as goal

abbrev pub invariant-loop-bit : goal.invariant-loop-bit
invariant-loop-bit l = record {
  found : AreBitsBelow l.loops l.edges.count (IsTurn l.edges l.inside) l.bit l.found;
  settled : AreBitsSettled l.edges l.inside l.found l.pending;
}
