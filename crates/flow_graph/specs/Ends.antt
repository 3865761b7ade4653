-- Scaffold: the ends of a graph's edges by the numbers of nodes.
use Rattle.std.specs.Prelude.{◌≡◌, ℕ, ◌<◌, List, length, slice_get, Option, Some, None}
use Rattle.flow_graph.specs.FlowGraph.{FlowGraph, graph}

-- by edge: the number of the node where it starts, and that of the node to which it leads, if it leads to one
pub record AreEdgeEnds (v : FlowGraph) (sources : List ℕ) (targets : List (Option ℕ)) : Type 0 where
  pub sources_size : length sources ≡ length v.code.edges
  pub targets_size : length targets ≡ length v.code.edges
  pub source : (e k : ℕ) → slice_get sources e ≡ Some k → slice_get v.code.nodes k ≡ Some ((graph v).source e)
  pub target : (e k : ℕ) → slice_get targets e ≡ Some (Some k) → ((graph v).target e ≡ slice_get v.code.nodes k) × (k < length v.code.nodes)
  pub end : (e : ℕ) → slice_get targets e ≡ Some None → (graph v).target e ≡ None
