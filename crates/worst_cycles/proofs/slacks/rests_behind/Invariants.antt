use Rattle.std.proofs.Common.{◌≡◌, ℕ, ◌<◌, length}
use Rattle.graph_algorithms.specs.Arcs.{number_in_place}
use Rattle.cost_theory.specs.Worst.{Numbers}
use Rattle.flow_graph.specs.FlowGraph.{graph}
use Rattle.loop_forest.specs.Tree.{loops}
use Rattle.worst_cycles.specs.Worst.{by_edge, rest_at}
use Rattle.worst_cycles.specs.Visits.{AreSolvedBy}
use Rattle.worst_cycles.proofs.slacks.rests_behind.Given as goal

abbrev pub invariant-loop-e : goal.invariant-loop-e
invariant-loop-e l = record {
  size : length l.rests.items ≡ l.e;
  each : (n : Numbers) → AreSolvedBy l.visited.planned.graph.now l.visited.planned.tree.now (by_edge l.visited.planned.weights.now) n → (d : ℕ) → d < l.e → number_in_place l.rests.items d ≡ rest_at (graph l.visited.planned.graph.now) (loops l.visited.planned.graph.now l.visited.planned.tree.now) n d;
}
