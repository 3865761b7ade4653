-- Scaffold: the edges between nodes, as arcs between their numbers.
use Rattle.std.specs.Prelude.{◌≡◌, ℕ, ◌+◌, ◌<◌, ◌≤◌, List, length, slice_get, Option, Some, None, IsSome}
use Rattle.graph_algorithms.specs.declared.orders.Arc.{Arc}
use Rattle.graph_algorithms.specs.Arcs.{arc_at, number_in_place, AreDistinct}
use Rattle.flow_graph.specs.FlowGraph.{FlowGraph, graph}

-- edge e leads from the node of one number to that of another
pub record IsEdgeBetween (v : FlowGraph) (e a b : ℕ) : Type 0 where
  pub source : slice_get v.code.nodes a ≡ Some ((graph v).source e)
  pub target : (graph v).target e ≡ slice_get v.code.nodes b
  pub within : b < length v.code.nodes

-- edge e is no back edge of a loop, by a list of the loops of which edges are back edges
abbrev pub IsPlainBy : List (Option ℕ) → ℕ → Type 0
IsPlainBy backs e = slice_get backs e ≡ Some None

-- the arc of an edge, which is a back edge of a loop or of none: none where it is one or leads to no node
abbrev pub IsArcOf : FlowGraph → Option ℕ → ℕ → Option Arc → Type 0
IsArcOf v back e (Some arc) = (back ≡ None) × IsEdgeBetween v e arc.from arc.to
IsArcOf v back e None = back ≡ None → (graph v).target e ≡ None

-- an arc for each of the first n edges that leads to a node and is no back edge, and no others
pub record ArePlainArcs (v : FlowGraph) (backs : List (Option ℕ)) (n : ℕ) (arcs : List Arc) : Type 0 where
  pub few : length arcs ≤ n
  pub edge : (s : ℕ) → s < length arcs → (e : ℕ) × (e < n) × IsPlainBy backs e × IsEdgeBetween v e (arc_at arcs s).from (arc_at arcs s).to
  pub whole : (e : ℕ) → e < n → IsPlainBy backs e → IsSome ((graph v).target e) → (s : ℕ) × (s < length arcs) ×
      IsEdgeBetween v e (arc_at arcs s).from (arc_at arcs s).to

abbrev pub HasPlainEdge : FlowGraph → List (Option ℕ) → ℕ → ℕ → Type 0
HasPlainEdge v backs a b = (e : ℕ) × (e < (graph v).edges) × IsPlainBy backs e × IsEdgeBetween v e a b

-- numbers of nodes, at least one, all different, each with a plain edge to the next and the last with one to the first
pub record IsRoundOfNodes (v : FlowGraph) (backs : List (Option ℕ)) (numbers : List ℕ) : Type 0 where
  pub some : 0 < length numbers
  pub within : (i : ℕ) → i < length numbers → number_in_place numbers i < length v.code.nodes
  pub distinct : AreDistinct numbers
  pub onward : (i : ℕ) → i + 1 < length numbers → HasPlainEdge v backs (number_in_place numbers i) (number_in_place numbers (i + 1))
  pub round : (i : ℕ) → i + 1 ≡ length numbers → HasPlainEdge v backs (number_in_place numbers i) (number_in_place numbers 0)

-- the addresses of the nodes of these numbers
pub record AreAddressesOf (v : FlowGraph) (numbers addresses : List ℕ) : Type 0 where
  pub size : length addresses ≡ length numbers
  pub each : (i : ℕ) → i < length numbers → slice_get v.code.nodes (number_in_place numbers i) ≡ Some (number_in_place addresses i)
