-- Scaffold: back edges by the numbers of nodes, and what is known of the lists of loops.
use Rattle.std.specs.Prelude.{◌≡◌, ◌↔◌, ℕ, ◌<◌, true, List, length, slice_get, slice_index, slice_index_or, Option, Some, None}
use Rattle.graph_algorithms.specs.Arcs.{AreDistinct}
use Rattle.cost_theory.specs.Lists.{body_of, is_among}
use Rattle.flow_graph.specs.FlowGraph.{FlowGraph, graph}
use Rattle.loop_forest.specs.Found.{IsAscending}
use Rattle.loop_forest.specs.Arcs.{IsPlainBy}

-- different numbers below the count
pub record AreDistinctHeaders (headers : List ℕ) (count : ℕ) : Type 0 where
  pub within : (k : ℕ) → k < length headers → slice_index headers k < count
  pub distinct : AreDistinct headers

abbrev pub loop_at : List (Option ℕ) → ℕ → Option ℕ
loop_at heads k = slice_index_or heads k None

-- by node the one of the first n loops whose header it is
pub record ArePlacedHeaders (headers : List ℕ) (n count : ℕ) (heads : List (Option ℕ)) : Type 0 where
  pub size : length heads ≡ count
  pub headed : (k l : ℕ) → loop_at heads k ≡ Some l → (l < n) × (slice_index headers l ≡ k)
  pub whole : (l : ℕ) → l < n → loop_at heads (slice_index headers l) ≡ Some l

-- headers and ascending bodies of loops, by the numbers of nodes
pub record AreLoopLists (v : FlowGraph) (headers : List ℕ) (bodies : List (List ℕ)) : Type 0 where
  pub size : length bodies ≡ length headers
  pub headers_are : AreDistinctHeaders headers (length v.code.nodes)
  pub body : (k : ℕ) → k < length headers → IsAscending (length v.code.nodes) (body_of bodies k)

-- edge e leads from a node of the body of loop k to its header
pub record IsBackBetween (v : FlowGraph) (headers : List ℕ) (bodies : List (List ℕ)) (e k : ℕ) : Type 0 where
  pub within : k < length headers
  pub from : ℕ
  pub source : slice_get v.code.nodes from ≡ Some ((graph v).source e)
  pub body : is_among from (body_of bodies k) ≡ true
  pub target : (graph v).target e ≡ slice_get v.code.nodes (slice_index headers k)

-- by edge, for the first n edges, the loop of which it is a back edge
pub record AreBacks (v : FlowGraph) (headers : List ℕ) (bodies : List (List ℕ)) (n : ℕ) (backs : List (Option ℕ)) : Type 0 where
  pub size : length backs ≡ n
  pub back : (e k : ℕ) → e < n → (slice_get backs e ≡ Some (Some k)) ↔ IsBackBetween v headers bodies e k

-- an edge leads from one address to the other, which is no back edge by a list of the loops of which edges are back edges
abbrev pub IsStepBy : FlowGraph → List (Option ℕ) → ℕ → ℕ → Type 0
IsStepBy v backs a b = (e : ℕ) × (e < (graph v).edges) × IsPlainBy backs e × ((graph v).source e ≡ a) × ((graph v).target e ≡ Some b)
