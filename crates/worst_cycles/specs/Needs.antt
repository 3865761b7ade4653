-- Scaffold: the nodes whose numbers those of others are made of.
use Rattle.std.specs.Prelude.{◌≡◌, ℕ, ◌+◌, ◌<◌, ◌≤◌, ◌⊎◌, Bool, List, length, slice_get, Option, Some}
use Rattle.graph_algorithms.specs.declared.orders.Arc.{Arc}
use Rattle.graph_algorithms.specs.Arcs.{arc_at, number_in_place, AreDistinct}
use Rattle.flow_graph.specs.FlowGraph.{FlowGraph, graph}
use Rattle.loop_forest.specs.Arcs.{IsPlainBy}
use Rattle.loop_forest.specs.Tree.{LoopView, IsLoopTree}

-- by function, the number of the node at its entry
pub record AreEntries (v : FlowGraph) (entries : List ℕ) : Type 0 where
  pub size : length entries ≡ length v.code.functions
  pub each : (f : ℕ) → f < length v.code.functions → slice_get v.code.nodes (number_in_place entries f) ≡ Some ((graph v).entry f)

-- an edge leads to node t
abbrev pub LeadsToNode : FlowGraph → ℕ → ℕ → Type 0
LeadsToNode v e t = ((graph v).target e ≡ slice_get v.code.nodes t) × (t < length v.code.nodes)

-- it is no back edge, by a list of the loops of which edges are back edges, and leads to node t
abbrev pub LeadsPlainly : FlowGraph → List (Option ℕ) → ℕ → ℕ → Type 0
LeadsPlainly v backs e t = IsPlainBy backs e × LeadsToNode v e t

-- it calls the function that begins at node t
abbrev pub CallsNode : FlowGraph → List ℕ → ℕ → ℕ → Type 0
CallsNode v entries e t = (f : ℕ) × ((graph v).callee e ≡ Some f) × (t ≡ number_in_place entries f)

abbrev pub IsNeeded : FlowGraph → List (Option ℕ) → List ℕ → ℕ → ℕ → Type 0
IsNeeded v backs entries e t = LeadsPlainly v backs e t ⊎ CallsNode v entries e t

abbrev pub StartsAtNode : FlowGraph → ℕ → ℕ → Type 0
StartsAtNode v e k = slice_get v.code.nodes k ≡ Some ((graph v).source e)

-- arcs from the node of each edge to what is needed for it: the nodes to which plain edges lead, and the entries that the first n edges call
pub record AreNeeds (v : FlowGraph) (backs : List (Option ℕ)) (entries : List ℕ) (n : ℕ) (arcs : List Arc) : Type 0 where
  pub few : length arcs ≤ length v.code.edges + n
  pub each : (s : ℕ) → s < length arcs → (e : ℕ) × (e < length v.code.edges) × StartsAtNode v e (arc_at arcs s).from ×
      IsNeeded v backs entries e (arc_at arcs s).to
  pub led : (e t : ℕ) → e < length v.code.edges → LeadsPlainly v backs e t → (s : ℕ) × (s < length arcs) ×
      StartsAtNode v e (arc_at arcs s).from × ((arc_at arcs s).to ≡ t)
  pub called : (e t : ℕ) → e < n → CallsNode v entries e t → (s : ℕ) × (s < length arcs) × StartsAtNode v e (arc_at arcs s).from ×
      ((arc_at arcs s).to ≡ t)

-- the loops of a tree are accepted in a graph
abbrev pub HasTree : FlowGraph → LoopView → Type 0
HasTree v t = (extent : ℕ → ℕ → Bool) × IsLoopTree v extent t

-- the numbers of all nodes, each once and behind what is needed for its edges
pub record IsNeededFirst (v : FlowGraph) (backs : List (Option ℕ)) (entries order : List ℕ) : Type 0 where
  pub within : (i : ℕ) → i < length order → number_in_place order i < length v.code.nodes
  pub whole : (k : ℕ) → k < length v.code.nodes → (i : ℕ) × (i < length order) × (number_in_place order i ≡ k)
  pub distinct : AreDistinct order
  pub ready : (i e t : ℕ) → i < length order → e < length v.code.edges → StartsAtNode v e (number_in_place order i) →
      IsNeeded v backs entries e t →
      (j : ℕ) × (j < i) × (number_in_place order j ≡ t)

-- by node, its place in an order
abbrev pub ArePlaces : List ℕ → List ℕ → Type 0
ArePlaces order places = (i : ℕ) → i < length order → number_in_place places (number_in_place order i) ≡ i
