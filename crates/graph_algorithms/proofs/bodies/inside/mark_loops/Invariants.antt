use Rattle.std.proofs.Common.{◌≡◌, length}
use Rattle.graph_algorithms.proofs.InsideLaws.{AreLoopsMarked}
use Rattle.graph_algorithms.proofs.bodies.inside.mark_loops.Given as goal

abbrev pub invariant-loop-bit : goal.invariant-loop-bit
invariant-loop-bit l = record {
  size : length l.changes ≡ length l.fn.changes;
  marked : AreLoopsMarked l.loops (length l.fn.changes) l.bit l.changes;
}
