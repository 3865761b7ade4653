use Rattle.std.proofs.Common.{◌≡◌, ℕ, ◌<◌, false}
use Rattle.graph_algorithms.specs.BodySearch.{is_marked_at}
use Rattle.graph_algorithms.proofs.bodies.sweep.is_quiet.Given as goal

abbrev pub invariant-loop-waits : goal.invariant-loop-waits
invariant-loop-waits l = (v : ℕ) → v < l.waits-index → is_marked_at l.pending v ≡ false
