use Rattle.std.proofs.Common.{◌≡◌, ℕ, ◌<◌, ◌≤◌, false}
use Rattle.graph_algorithms.specs.BodySearch.{is_marked_at}
use Rattle.graph_algorithms.proofs.bodies.sweep.is_quiet_among.Given as goal

abbrev pub invariant-loop-node : goal.invariant-loop-node
invariant-loop-node l = (v : ℕ) → l.fn.nodes.from ≤ v → v < l.node → is_marked_at l.pending v ≡ false
