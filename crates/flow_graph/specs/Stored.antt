-- Scaffold: what the lists of a CodeGraph keep.
use Rattle.std.specs.Prelude.{◌≡◌, ℕ, ◌+◌, ◌<◌, ◌≤◌, List, length, map, slice_get, slice_index, Option}
use Rattle.scale_base.specs.declared.limits.TheConstants.{WORD_LIMIT}
use Rattle.scale_base.specs.declared.edges.Edge.{Edge}
use Rattle.cost_theory.specs.Reached.{edge_at, callee_of}
use Rattle.flow_graph.specs.declared.lists.GraphLists.{GraphLists}
use Rattle.flow_graph.specs.FlowGraph.{FlowGraph, IsFlowGraph}
use Rattle.flow_graph.specs.Blocks.{AreBlocks}
use Rattle.flow_graph.specs.Ends.{AreEdgeEnds}

-- what a graph of these lists is seen as
abbrev pub flow_of : GraphLists → FlowGraph
flow_of g = record {
  code = record {
    nodes = g.nodes.items;
    edges = g.edges.items;
    functions = g.functions.items;
    owners = g.owners.items;
    returning = g.returning.items;
  };
  kinds = g.kinds.items;
  classes = g.classes.items;
  order = g.order.items;
  blocks = g.blocks.items;
}

-- by number of the first n nodes the number of its first edge, and at last how many edges there are
pub record AreFirsts (n : ℕ) (nodes : List ℕ) (edges : List Edge) (firsts : List ℕ) : Type 0 where
  pub size : length firsts ≡ n + 1
  pub last : slice_index firsts n ≡ length edges
  pub rising : (j k : ℕ) → j ≤ k → k ≤ n → slice_index firsts j ≤ slice_index firsts k
  pub own : (k e : ℕ) → k < n → slice_index firsts k ≤ e → e < slice_index firsts (k + 1) →
      edge_at (slice_get edges e) ≡ slice_index nodes k
  pub whole : (e : ℕ) → e < length edges → (k : ℕ) × (k < n) × (slice_index firsts k ≤ e) × (e < slice_index firsts (k + 1))

-- a graph of limited size, by node the function that is called, the numbers of the nodes' first edges, and the ends of edges
pub record IsStoredGraph (v : FlowGraph) (callees : List (Option ℕ)) (firsts sources : List ℕ) (targets : List (Option ℕ)) : Type 0 where
  pub flow : IsFlowGraph v
  pub few_nodes : length v.code.nodes ≤ WORD_LIMIT
  pub few_edges : length v.code.edges ≤ 262144
  pub few_functions : length v.code.functions ≤ WORD_LIMIT
  pub kinds : length v.kinds ≡ length v.code.nodes
  pub owners : length v.code.owners ≡ length v.code.nodes
  pub callees_are : callees ≡ map (callee_of v.code.functions) v.kinds
  pub firsts_are : AreFirsts (length v.code.nodes) v.code.nodes v.code.edges firsts
  pub ends_are : AreEdgeEnds v sources targets
  pub few_blocks : length v.blocks ≤ length v.code.nodes
  pub blocks_are : AreBlocks v v.blocks
