-- Scaffold: the least costs to a return and to an end, by node, and to an end after each edge: what LeastNumbers are seen as.
use Rattle.std.specs.Prelude.{◌≡◌, ℕ, ◌+◌, ◌^◌, ◌<◌, ◌≤◌, List, length, slice_get, Option, Some, None}
use Rattle.graph_algorithms.specs.Arcs.{number_in_place}
use Rattle.cost_theory.specs.Graph.{Loops}
use Rattle.cost_theory.specs.Worst.{Numbers, AreNumbers}
use Rattle.cost_theory.specs.Least.{Least}
use Rattle.flow_graph.specs.FlowGraph.{FlowGraph, graph}
use Rattle.cycle_laws.specs.Charged.{Charged, AreCharged, to_end_after}
use Rattle.least_cycles.specs.Ends.{end_place}
use Rattle.scale_base.specs.declared.limits.TheConstants.{CYCLE_LIMIT}

pub record LeastView : Type 0 where
  -- by node, the least cost to a return of its function, and to an end of the run
  pub returns : List (Option ℕ)
  pub ends : List (Option ℕ)
  -- by edge, the least cost to an end behind it with the edge's charge; none for an edge that leads to no node
  pub after : List (Option ℕ)

-- the program has its worst numbers under these weights, and its worst cycles are in range
abbrev pub HasWorstInRange : FlowGraph → Loops → (ℕ → ℕ) → Type 0
HasWorstInRange v l w = (n : Numbers) × AreNumbers (graph v) l w n × (n.worst 0 ≤ CYCLE_LIMIT)

-- the view holds the numbers of nodes, and those behind edges
pub record HoldsLeast (v : FlowGraph) (l : Loops) (n : Charged) (x : LeastView) : Type 0 where
  pub to_return : (k at : ℕ) → slice_get v.code.nodes k ≡ Some at → slice_get x.returns k ≡ Some (n.least.to_return at)
  pub to_end : (k at : ℕ) → slice_get v.code.nodes k ≡ Some at → slice_get x.ends k ≡ Some (n.least.to_end at)
  pub after : (e : ℕ) → e < length v.code.edges → slice_get x.after e ≡ Some (to_end_after (graph v) l n e)

-- the least cycles under weights, where closed loops turn at least so often as they have to
abbrev pub IsLeastOf : FlowGraph → Loops → (ℕ → ℕ) → LeastView → Type 0
IsLeastOf v l w x = (n : Charged) × AreCharged (graph v) l w n × HoldsLeast v l n x

-- one of each for each node and edge, and those that are there below 2^89
pub record AreSmallLeast (v : FlowGraph) (x : LeastView) : Type 0 where
  pub returns_size : length x.returns ≡ length v.code.nodes
  pub ends_size : length x.ends ≡ length v.code.nodes
  pub after_size : length x.after ≡ length v.code.edges
  pub returns : (k z : ℕ) → slice_get x.returns k ≡ Some (Some z) → z < 2 ^ 89
  pub ends : (k z : ℕ) → slice_get x.ends k ≡ Some (Some z) → z < 2 ^ 89
  pub after : (e z : ℕ) → slice_get x.after e ≡ Some (Some z) → z < 2 ^ 89

-- weights as costs of edges
pub record AreOwn (n : ℕ) (weights own : List ℕ) : Type 0 where
  pub size : length own ≡ n
  pub each : (e : ℕ) → e < n → number_in_place own e ≡ number_in_place weights e
  pub low : (e : ℕ) → number_in_place own e ≤ CYCLE_LIMIT

-- the ends of the first n nodes, and behind the first n edges
pub record AreEndsTo (v : FlowGraph) (n : Least) (k : ℕ) (ends : List (Option ℕ)) : Type 0 where
  pub size : length ends ≡ k
  pub each : (j at : ℕ) → j < k → slice_get v.code.nodes j ≡ Some at → slice_get ends j ≡ Some (n.to_end at)

-- a number that may be absent, with a charge
abbrev pub plus_charge : ℕ → Option ℕ → Option ℕ
plus_charge charge None = None
plus_charge charge (Some z) = Some (z + charge)

pub record AreAfterTo (v : FlowGraph) (n : Least) (charge : ℕ → ℕ) (k : ℕ) (after : List (Option ℕ)) : Type 0 where
  pub size : length after ≡ k
  pub each : (e : ℕ) → e < k → slice_get after e ≡ Some (plus_charge (charge e) (end_place n ((graph v).target e)))
