use Rattle.std.proofs.Common.{◌≡◌, ℕ, ◌<◌, length}
use Rattle.graph_algorithms.specs.Arcs.{number_in_place}
use Rattle.flow_graph.specs.FlowGraph.{graph as graph_seen}
use Rattle.worst_cycles.specs.Worst.{by_edge}
use Rattle.worst_walks.specs.Whole.{listed_cost}
use Rattle.worst_walks.proofs.whole.edge_cycles.Given as goal

abbrev pub invariant-loop-e : goal.invariant-loop-e
invariant-loop-e l = record {
  size : length l.cycles.items ≡ l.e;
  each : (d : ℕ) → d < l.e → number_in_place l.cycles.items d ≡ listed_cost (graph_seen l.known.graph.now) (by_edge l.known.weights.now) l.known.worst.now.worst d;
}
