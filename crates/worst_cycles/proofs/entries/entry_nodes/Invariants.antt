use Rattle.std.proofs.Common.{◌≡◌, ℕ, ◌<◌, length, slice_get, Some}
use Rattle.graph_algorithms.specs.Arcs.{number_in_place}
use Rattle.flow_graph.specs.FlowGraph.{graph}
use Rattle.worst_cycles.proofs.entries.entry_nodes.Given as goal

abbrev pub invariant-loop-f : goal.invariant-loop-f
invariant-loop-f l = record {
  size : length l.entries.items ≡ l.f;
  each : (h : ℕ) → h < l.f → slice_get l.graph.code.nodes (number_in_place l.entries.items h) ≡ Some ((graph l.graph).entry h);
}
