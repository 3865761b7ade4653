use Rattle.std.proofs.Common.{◌≡◌, ℕ, ◌<◌, Some, length}
use Rattle.graph_algorithms.specs.Arcs.{number_in_place}
use Rattle.flow_graph.specs.FlowGraph.{graph}
use Rattle.graph_tests.proofs.least_numbers.weights_of.Given as goal

abbrev pub invariant-loop-e : goal.invariant-loop-e
invariant-loop-e l = record {
  size : length l.weights.items ≡ l.e;
  one : (d f : ℕ) → d < l.e → (graph l.graph).callee d ≡ Some f → number_in_place l.weights.items d ≡ 1;
}
