-- The worst cycles of a program's functions, as lists: what WorstNumbers are seen as, and what finding them answers.
use Rattle.std.specs.Prelude.{◌≡◌, ℕ, ◌^◌, ◌<◌, ◌≤◌, List, length, slice_get, slice_index, slice_index_or, Result, Ok, Err, Some, is_some}
use Rattle.scale_base.specs.declared.limits.TheConstants.{CYCLE_LIMIT}
use Rattle.scale_base.specs.declared.refusal.Refusal.{Refusal}
use Rattle.scale_base.specs.declared.refusal.Refusal.TheVariants.{TooLong}
use Rattle.cost_theory.specs.Graph.{Graph, Loops, only}
use Rattle.cost_theory.specs.Worst.{Numbers, AreNumbers, cost, slack, rest}
use Rattle.flow_graph.specs.FlowGraph.{FlowGraph, graph}

pub record WorstView : Type 0 where
  -- by function, its worst cycles
  pub worst : List ℕ
  -- by loop, the greatest cost of one iteration
  pub iteration : List ℕ
  -- by node, what is left there of its function, without the turns that the loops round it have left
  pub left : List ℕ
  -- by function, what is left of its callers behind a call of it
  pub context : List ℕ
  -- by edge, its slack, and the rest behind it; 0 for an edge that leads to no node
  pub slacks : List ℕ
  pub rests : List ℕ

-- a list of weights, by edge
abbrev pub by_edge : List ℕ → ℕ → ℕ
by_edge weights e = slice_index_or weights e 0

-- no weight is greater
abbrev pub AreUpTo : List ℕ → ℕ → Type 0
AreUpTo weights most = (e : ℕ) → e < length weights → by_edge weights e ≤ most

-- the view holds the numbers of a program's functions and loops under weights
abbrev pub IsWorstOf : Graph → Loops → (ℕ → ℕ) → WorstView → Type 0
IsWorstOf g l w v = (n : Numbers) × AreNumbers g l w n × ((f : ℕ) → f < g.functions → slice_get v.worst f ≡ Some (n.worst f)) ×
    ((k : ℕ) → k < l.loops → slice_get v.iteration k ≡ Some (n.iteration k))

-- the view holds them for each function and loop and no more, and the worst cycles of the program are in range
pub record IsWorstInRange (g : Graph) (l : Loops) (w : ℕ → ℕ) (v : WorstView) : Type 0 where
  pub numbers : IsWorstOf g l w v
  pub size : length v.worst ≡ g.functions
  pub loops_size : length v.iteration ≡ l.loops
  pub small : slice_index v.worst 0 ≤ CYCLE_LIMIT

-- those of the program are over the limit
abbrev pub IsWorstTooLong : Graph → Loops → (ℕ → ℕ) → Type 0
IsWorstTooLong g l w = (n : Numbers) × AreNumbers g l w n × (CYCLE_LIMIT < n.worst 0)

-- what finding them answers
abbrev pub IsWorstFound : Graph → Loops → (ℕ → ℕ) → Result WorstView Refusal → Type 0
IsWorstFound g l w (Ok v) = IsWorstInRange g l w v
IsWorstFound g l w (Err refusal) = (refusal ≡ TooLong) × IsWorstTooLong g l w

-- ---- what is left

-- the slack of an edge, and the rest behind it; 0 for one that leads to no node
abbrev pub slack_at : Graph → Loops → (ℕ → ℕ) → Numbers → ℕ → ℕ
slack_at g l w n e = only (is_some (g.target e)) (slack g l n (cost g n w) e)

abbrev pub rest_at : Graph → Loops → Numbers → ℕ → ℕ
rest_at g l n e = only (is_some (g.target e)) (rest g l n e)

-- the view holds what is left at the nodes, the contexts of the functions, and the slacks of the edges and the rests behind them
pub record HoldsLeft (v : FlowGraph) (l : Loops) (w : ℕ → ℕ) (n : Numbers) (x : WorstView) : Type 0 where
  pub left : (k at : ℕ) → slice_get v.code.nodes k ≡ Some at → slice_get x.left k ≡ Some (n.left at)
  pub context : (f : ℕ) → f < length v.code.functions → slice_get x.context f ≡ Some (n.context f)
  pub slack : (e : ℕ) → e < length v.code.edges → slice_get x.slacks e ≡ Some (slack_at (graph v) l w n e)
  pub rest : (e : ℕ) → e < length v.code.edges → slice_get x.rests e ≡ Some (rest_at (graph v) l n e)

-- one number for each node, function and edge
pub record HasLeftSizes (v : FlowGraph) (x : WorstView) : Type 0 where
  pub left : length x.left ≡ length v.code.nodes
  pub context : length x.context ≡ length v.code.functions
  pub slacks : length x.slacks ≡ length v.code.edges
  pub rests : length x.rests ≡ length v.code.edges

abbrev pub IsLeftOf : FlowGraph → Loops → (ℕ → ℕ) → WorstView → Type 0
IsLeftOf v l w x = (n : Numbers) → AreNumbers (graph v) l w n → HoldsLeft v l w n x
