-- Scaffold: the least costs behind the calls of functions, callers first.
use Rattle.std.specs.Prelude.{◌≡◌, ℕ, ◌+◌, ◌*◌, ◌^◌, ◌<◌, ◌≤◌, List, length, slice_get, Option, Some, None, IsSome}
use Rattle.cost_theory.specs.Graph.{Graph}
use Rattle.cost_theory.specs.Least.{Least, IsLeastIfAny, end_after}
use Rattle.flow_graph.specs.FlowGraph.{FlowGraph, graph}
use Rattle.least_cycles.specs.Hops.{number_in_table}
use Rattle.least_cycles.specs.Tables.{least_by}

-- a call of f comes back over edge e to a node from which there is an end
abbrev pub IsBackTo : Graph → Least → ℕ → ℕ → Type 0
IsBackTo g n f e = (e < g.edges) × (g.callee e ≡ Some f) × ((u : ℕ) × (g.target e ≡ Some u) × IsSome (n.to_end u))

-- the least cost to an end at a place
abbrev pub end_place : Least → Option ℕ → Option ℕ
end_place n None = None
end_place n (Some u) = n.to_end u

-- tables by node, with small numbers
pub record AreSmallWalks (v : FlowGraph) (returns exits : List (Option ℕ)) : Type 0 where
  pub returns_size : length returns ≡ length v.code.nodes
  pub exits_size : length exits ≡ length v.code.nodes
  pub small_return : (k x : ℕ) → number_in_table returns k ≡ Some x → x ≤ 2 ^ 67
  pub small_exit : (k x : ℕ) → number_in_table exits k ≡ Some x → x ≤ 2 ^ 67

-- the least of those over the edges from a number on
abbrev pub AreBehindFrom : FlowGraph → Least → ℕ → ℕ → Option ℕ → Type 0
AreBehindFrom v n f from least = IsLeastIfAny (λ e. IsBackTo (graph v) n f e × (from ≤ e)) (end_after (graph v) n) least

-- By function, the least cost to an end behind its calls, for the functions from a place of the order of calls on.
pub record AreBehind (v : FlowGraph) (returns exits : List (Option ℕ)) (i : ℕ) (behind : List (Option ℕ)) : Type 0 where
  pub size : length behind ≡ length v.code.functions
  pub done : (h j : ℕ) → i ≤ j → slice_get v.order j ≡ Some h →
      IsLeastIfAny (IsBackTo (graph v) (least_by v returns exits behind) h) (end_after (graph v) (least_by v returns exits behind))
      (number_in_table behind h)
  pub low : (h x : ℕ) → number_in_table behind h ≡ Some x → x + i * 2 ^ 67 ≤ length v.order * 2 ^ 67
