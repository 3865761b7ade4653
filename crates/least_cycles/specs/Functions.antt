-- Scaffold: nodes by their numbers, and their edges as hops between them.
use Rattle.std.specs.Prelude.{◌≡◌, ℕ, ◌+◌, ◌<◌, true, Bool, false, List, map, length, slice_get, slice_index_or, Option, Some}
use Rattle.graph_algorithms.specs.Arcs.{number_in_place, AreDistinct}
use Rattle.cost_theory.specs.Graph.{total}
use Rattle.cost_theory.specs.Least.{IsLeastIfAny, EndsWith}
use Rattle.cost_theory.specs.LeastTurns.{IsRun}
use Rattle.flow_graph.specs.FlowGraph.{FlowGraph, graph}
use Rattle.loop_forest.specs.Noted.{node_address}
use Rattle.least_cycles.specs.declared.Hop.{Hop}
use Rattle.least_cycles.specs.Hops.{number_in_table}
use Rattle.least_cycles.specs.Local.{IsHopOf}

-- the numbers of the nodes of a function, each once
pub record IsBucket (v : FlowGraph) (f : ℕ) (bucket : List ℕ) : Type 0 where
  pub within : (i : ℕ) → i < length bucket → number_in_place bucket i < length v.code.nodes
  pub own : (i : ℕ) → i < length bucket → (graph v).owner (node_address v (number_in_place bucket i)) ≡ f
  pub whole : (k : ℕ) → k < length v.code.nodes → (graph v).owner (node_address v k) ≡ f → (i : ℕ) × (i < length bucket) ×
      (number_in_place bucket i ≡ k)
  pub once : AreDistinct bucket

-- the numbers of some nodes, each once
pub record AreNodeNumbers (v : FlowGraph) (nodes : List ℕ) : Type 0 where
  pub within : (i : ℕ) → i < length nodes → number_in_place nodes i < length v.code.nodes
  pub once : AreDistinct nodes

-- by node, its place among some nodes
pub record ArePlacesIn (bucket places : List ℕ) : Type 0 where
  pub each : (i : ℕ) → i < length bucket → number_in_place places (number_in_place bucket i) ≡ i

-- by node, its place in an order, counted from the last
pub record AreRanksIn (order ranks : List ℕ) : Type 0 where
  pub each : (i : ℕ) → i < length order → number_in_place ranks (number_in_place order i) + i + 1 ≡ length order

abbrev pub addresses : FlowGraph → List ℕ → List ℕ
addresses v bucket = map (node_address v) bucket

-- edges by a list of flags
abbrev pub is_in_flags : List Bool → ℕ → Bool
is_in_flags flags e = slice_index_or flags e false

abbrev pub IsNodeFlagged : List Bool → ℕ → Type 0
IsNodeFlagged flags e = is_in_flags flags e ≡ true

-- the edges that start at the first n nodes of a function
abbrev pub IsFromFirst : FlowGraph → List ℕ → ℕ → ℕ → Type 0
IsFromFirst v bucket n e = (j : ℕ) × (j < n) × ((graph v).source e ≡ node_address v (number_in_place bucket j))

-- and those of the next, below a number
abbrev pub IsFromNext : FlowGraph → List ℕ → ℕ → ℕ → ℕ → Type 0
IsFromNext v bucket n end e = ((graph v).source e ≡ node_address v (number_in_place bucket n)) × (e < end)

-- Flags of the edges of some nodes: those that are the last of a run, and others that lead on to one of the nodes.
pub record AreKinds (v : FlowGraph) (nodes : List ℕ) (lasts steps : List Bool) : Type 0 where
  pub lasts_size : length lasts ≡ length v.code.edges
  pub steps_size : length steps ≡ length v.code.edges
  pub apart : (e : ℕ) → e < length v.code.edges → IsFromFirst v nodes (length nodes) e → IsNodeFlagged lasts e → is_in_flags steps e ≡ false
  pub stays : (e : ℕ) → e < length v.code.edges → IsFromFirst v nodes (length nodes) e → IsNodeFlagged steps e →
      (j : ℕ) × (j < length nodes) × ((graph v).target e ≡ Some (node_address v (number_in_place nodes j)))

-- hops of the edges that are done, in an order of these
pub record AreHopsOf (v : FlowGraph) (lasts steps : List Bool) (c : ℕ → ℕ) (nodes : List ℕ) (Done : ℕ → Type 0) (edges : List ℕ)
    (hops : List Hop) : Type 0 where
  pub size : length edges ≡ length hops
  pub edge : (i e : ℕ) → slice_get edges i ≡ Some e → e < length v.code.edges
  pub all : (e : ℕ) → e < length v.code.edges → Done e → (i : ℕ) × (slice_get edges i ≡ Some e)
  pub hop : (i e : ℕ) → slice_get edges i ≡ Some e → (h : Hop) × (slice_get hops i ≡ Some h) ×
      IsHopOf (graph v) (is_in_flags lasts) (is_in_flags steps) c nodes h e

-- by place of the node among some nodes, the least cost of a run over a last edge,
abbrev pub AreLeastRuns : FlowGraph → List Bool → List Bool → (ℕ → ℕ) → List ℕ → List (Option ℕ) → Type 0
AreLeastRuns v lasts steps c nodes table = (i : ℕ) → i < length nodes →
    IsLeastIfAny (IsRun (graph v) false (is_in_flags lasts) (is_in_flags steps) (Some (node_address v (number_in_place nodes i))))
    (total c) (number_in_table table i)

-- and of a walk over a last edge
abbrev pub AreLeastIn : FlowGraph → List Bool → (ℕ → ℕ) → List ℕ → List (Option ℕ) → Type 0
AreLeastIn v lasts c nodes table = (i : ℕ) → i < length nodes →
    IsLeastIfAny (EndsWith (graph v) (IsNodeFlagged lasts) (Some (node_address v (number_in_place nodes i)))) (total c)
    (number_in_table table i)
