-- Scaffold: least costs by node, as lists, and what stands in them while functions are done one after the other.
use Rattle.std.specs.Prelude.{◌≡◌, ◌≢◌, ℕ, ◌+◌, ◌^◌, ◌<◌, ◌≤◌, ◌↔◌, Bool, true, List, [], ◌∷◌, length, slice_get, nat_eq, if◌then◌else◌, Option, Some, None, is_some}
use Rattle.graph_algorithms.specs.Arcs.{number_in_place}
use Rattle.cost_theory.specs.Graph.{Graph, total}
use Rattle.cost_theory.specs.Worst.{at_some}
use Rattle.cost_theory.specs.Least.{Least, IsLeastIfAny, EndsWith, IsReturn, IsExit, least_cost}
use Rattle.flow_graph.specs.FlowGraph.{FlowGraph, graph}
use Rattle.loop_forest.specs.Noted.{node_address}
use Rattle.graph_algorithms.specs.Keys.{ChainView, option_at, AreChains}
use Rattle.least_cycles.specs.Hops.{number_in_table}
use Rattle.least_cycles.specs.Local.{lesser_cost, sum_of_both}
use Rattle.least_cycles.specs.Functions.{is_in_flags, IsNodeFlagged}
use Rattle.scale_base.specs.declared.limits.TheConstants.{CYCLE_LIMIT}

-- ---- nodes by function

pub record AreOwnerKeys (v : FlowGraph) (n : ℕ) (keys : List (Option ℕ)) : Type 0 where
  pub size : length keys ≡ n
  pub each : (k : ℕ) → k < n → option_at keys k ≡ Some ((graph v).owner (node_address v k))

-- the chains of the nodes by their functions
abbrev pub AreNodeChains : FlowGraph → ChainView → Type 0
AreNodeChains v chains = (keys : List (Option ℕ)) × AreOwnerKeys v (length v.code.nodes) keys ×
    AreChains keys (length v.code.functions) chains

-- the function that each edge calls, where the call comes back over this edge
abbrev pub back_from : Option ℕ → Option ℕ → Option ℕ
back_from None callee = None
back_from (Some u) callee = callee

pub record AreBackKeys (v : FlowGraph) (n : ℕ) (keys : List (Option ℕ)) : Type 0 where
  pub size : length keys ≡ n
  pub each : (e : ℕ) → e < n → option_at keys e ≡ back_from ((graph v).target e) ((graph v).callee e)

-- the chains of the edges by which calls come back, by the functions that are called
abbrev pub AreBackChains : FlowGraph → ChainView → Type 0
AreBackChains v chains = (keys : List (Option ℕ)) × AreBackKeys v (length v.code.edges) keys ×
    AreChains keys (length v.code.functions) chains

-- ---- tables by node

-- what stands beside an address
abbrev pub value_beside : List ℕ → List (Option ℕ) → ℕ → Option ℕ
value_beside [] table a = None
value_beside (u ∷ us) [] a = None
value_beside (u ∷ us) (o ∷ os) a = if nat_eq u a then o else value_beside us os a

-- What tables by node say of addresses, with the least costs behind the calls of each function.
abbrev pub least_by : FlowGraph → List (Option ℕ) → List (Option ℕ) → List (Option ℕ) → Least
least_by v returns exits behind = record {
  to_return = value_beside v.code.nodes returns;
  to_exit = value_beside v.code.nodes exits;
  to_end = λ a. lesser_cost (value_beside v.code.nodes exits a) (sum_of_both (value_beside v.code.nodes returns a)
      (number_in_table behind ((graph v).owner a)));
}

-- Costs of edges, and limits of functions: a walk from its entry to each End edge of a function stays within its limit.
pub record AreFunctionLimits (g : Graph) (own limit : ℕ → ℕ) : Type 0 where
  pub small : (f : ℕ) → f < g.functions → limit f ≤ CYCLE_LIMIT
  pub way : (e : ℕ) → e < g.edges → g.target e ≡ None →
      (es : List ℕ) × EndsWith g (λ d. d ≡ e) (Some (g.entry (g.owner (g.source e)))) es ×
      (total (λ d. own d + at_some (g.callee d) limit) es ≤ limit (g.owner (g.source e)))

-- the numbers at entries are within the limits
abbrev pub AreWithinLimits : FlowGraph → (ℕ → ℕ) → List (Option ℕ) → Type 0
AreWithinLimits v limit table = (f x : ℕ) → f < length v.code.functions → value_beside v.code.nodes table ((graph v).entry f) ≡ Some x →
    x ≤ limit f

-- and small
abbrev pub AreSmallAtEntries : FlowGraph → List (Option ℕ) → Type 0
AreSmallAtEntries v table = (f x : ℕ) → f < length v.code.functions → value_beside v.code.nodes table ((graph v).entry f) ≡ Some x →
    x ≤ CYCLE_LIMIT

-- tables by node, with small numbers at the entries of functions
pub record AreSmallTables (v : FlowGraph) (returns exits : List (Option ℕ)) : Type 0 where
  pub returns_size : length returns ≡ length v.code.nodes
  pub exits_size : length exits ≡ length v.code.nodes
  pub small_return : AreSmallAtEntries v returns
  pub small_exit : AreSmallAtEntries v exits

-- an edge's cost with that of the function that it calls, and whether it is the last of a walk to an exit
pub record IsPrice (v : FlowGraph) (own : ℕ → ℕ) (returns exits : List (Option ℕ)) (e cost : ℕ) (last : Bool) : Type 0 where
  pub cost_is : cost ≡ least_cost (graph v) own (least_by v returns exits []) e
  pub last_is : (last ≡ true) ↔ IsExit (graph v) (least_by v returns exits []) e
  pub end : last ≡ true → (graph v).target e ≡ None
  pub within : cost ≤ 2 ^ 49

-- the same for the edges of a set
pub record ArePriced (v : FlowGraph) (own : ℕ → ℕ) (returns exits : List (Option ℕ)) (Set : ℕ → Type 0) (costs : List ℕ)
    (lasts : List Bool) : Type 0 where
  pub costs_size : length costs ≡ length v.code.edges
  pub lasts_size : length lasts ≡ length v.code.edges
  pub cost : (e : ℕ) → e < length v.code.edges → Set e → number_in_place costs e ≡ least_cost (graph v) own (least_by v returns exits []) e
  pub last : (e : ℕ) → e < length v.code.edges → Set e → IsNodeFlagged lasts e ↔ IsExit (graph v) (least_by v returns exits []) e
  pub ends : (e : ℕ) → e < length v.code.edges → IsNodeFlagged lasts e → (graph v).target e ≡ None
  pub within : (e : ℕ) → number_in_place costs e ≤ 2 ^ 49

-- flags of the returns
pub record AreReturns (v : FlowGraph) (n : ℕ) (flags : List Bool) : Type 0 where
  pub size : length flags ≡ n
  pub each : (e : ℕ) → e < n → IsNodeFlagged flags e ↔ IsReturn (graph v) e

-- flags of the edges that lead to a node
pub record AreLeading (v : FlowGraph) (n : ℕ) (flags : List Bool) : Type 0 where
  pub size : length flags ≡ n
  pub each : (e : ℕ) → e < n → is_in_flags flags e ≡ is_some ((graph v).target e)

-- The tables have the least costs to a return and to an exit of the nodes of the functions that are done.
pub record AreWalksOf (v : FlowGraph) (own limit : ℕ → ℕ) (Done : ℕ → Type 0) (returns exits : List (Option ℕ)) : Type 0 where
  pub returns_size : length returns ≡ length v.code.nodes
  pub exits_size : length exits ≡ length v.code.nodes
  pub to_return : (k : ℕ) → k < length v.code.nodes → Done ((graph v).owner (node_address v k)) →
      IsLeastIfAny (EndsWith (graph v) (IsReturn (graph v)) (Some (node_address v k)))
      (total (least_cost (graph v) own (least_by v returns exits []))) (number_in_table returns k)
  pub to_exit : (k : ℕ) → k < length v.code.nodes → Done ((graph v).owner (node_address v k)) →
      IsLeastIfAny (EndsWith (graph v) (IsExit (graph v) (least_by v returns exits [])) (Some (node_address v k)))
      (total (least_cost (graph v) own (least_by v returns exits []))) (number_in_table exits k)
  pub low_return : AreWithinLimits v limit returns
  pub low_exit : AreWithinLimits v limit exits
  pub small_return : (k x : ℕ) → number_in_table returns k ≡ Some x → x ≤ 2 ^ 67
  pub small_exit : (k x : ℕ) → number_in_table exits k ≡ Some x → x ≤ 2 ^ 67

-- the functions at the first places of the order of calls, callees first
abbrev pub IsBefore : FlowGraph → ℕ → ℕ → Type 0
IsBefore v i f = (j : ℕ) × (j < i) × (slice_get v.order j ≡ Some f)

abbrev pub IsAnyFunction : ℕ → Type 0
IsAnyFunction f = Unit {0}

-- the numbers of the first n of some nodes are written into a table by node
pub record AreWritten (n : ℕ) (bucket : List ℕ) (found old new : List (Option ℕ)) : Type 0 where
  pub size : length new ≡ length old
  pub each : (i : ℕ) → i < n → number_in_table new (number_in_place bucket i) ≡ number_in_table found i
  pub others : (k : ℕ) → ((i : ℕ) → i < n → number_in_place bucket i ≢ k) → number_in_table new k ≡ number_in_table old k

-- costs and flags by edge, of which some may be priced for a function
pub record AreScratch (v : FlowGraph) (costs : List ℕ) (lasts : List Bool) : Type 0 where
  pub costs_size : length costs ≡ length v.code.edges
  pub lasts_size : length lasts ≡ length v.code.edges
  pub ends : (e : ℕ) → e < length v.code.edges → IsNodeFlagged lasts e → (graph v).target e ≡ None
  pub within : (e : ℕ) → number_in_place costs e ≤ 2 ^ 49
