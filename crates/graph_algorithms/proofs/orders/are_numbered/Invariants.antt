use Rattle.std.proofs.Common.{ℕ, ◌<◌}
use Rattle.graph_algorithms.specs.Arcs.{arc_at}
use Rattle.graph_algorithms.proofs.orders.are_numbered.Given as goal

abbrev pub invariant-loop-arc : goal.invariant-loop-arc
invariant-loop-arc l = (s : ℕ) → s < l.arc-index → ((arc_at l.arcs s).from < l.count) × ((arc_at l.arcs s).to < l.count)
