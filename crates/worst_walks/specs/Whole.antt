-- The cycles of functions and of loops with all that they call and that lies within them, along a walk that takes the worst cycles.
use Rattle.std.specs.Prelude.{◌≡◌, ℕ, ◌+◌, ◌*◌, ◌<◌, List, length, Option, Some, slice_get}
use Rattle.cost_theory.specs.Graph.{Graph, Loops, total, sum_below, only}
use Rattle.cost_theory.specs.Worst.{Numbers, AreNumbers, at_some}
use Rattle.graph_algorithms.specs.Arcs.{number_in_place}
use Rattle.flow_graph.specs.FlowGraph.{FlowGraph, graph}
use Rattle.loop_forest.specs.Tree.{LoopView, loops}
use Rattle.walk_laws.specs.Walks.{Walks}
use Rattle.worst_walks.specs.declared.counts.WalkCounts.{WalkCounts}
use Rattle.worst_walks.specs.declared.whole.WholeCycles.{WholeCycles}
use Rattle.worst_walks.specs.Explained.{IsWorstWalk, AreTotals}

-- what an edge costs with all that the called function goes through
abbrev pub with_called : Graph → Walks → (ℕ → ℕ) → ℕ → ℕ
with_called g s w e = w e + at_some (g.callee e) (λ f. total w (s.whole f))

-- Cycles of loop k with those of loops within it and of functions that are called from it: of each edge that starts in its body.
abbrev pub body_cycles : Graph → Loops → Walks → (ℕ → ℕ) → ℕ → ℕ → ℕ
body_cycles g l s w k e = only (l.inside k (g.source e)) (with_called g s w e)

-- by function those of all its calls, each of which goes the same walk, and by loop those of all its entries
pub record AreWholeCycles (g : Graph) (l : Loops) (w : ℕ → ℕ) (s : Walks) (x : WalkCounts) (all : WholeCycles) : Type 0 where
  pub size : length all.functions.items ≡ g.functions
  pub functions : (f : ℕ) → f < g.functions → number_in_place all.functions.items f ≡ number_in_place x.calls.items f * total w (s.whole f)
  pub loops : AreTotals l.loops (body_cycles g l s w) (s.whole 0) all.loops.items

-- the worst cycles of the functions
pub record AreWorstOf (g : Graph) (l : Loops) (w : ℕ → ℕ) (table : List ℕ) : Type 0 where
  pub numbers : Numbers
  pub are : AreNumbers g l w numbers
  pub each : (f : ℕ) → f < g.functions → slice_get table f ≡ Some (numbers.worst f)

-- ---- what the code keeps

-- what an edge costs with the worst cycles of the function that it calls, by a table of these
abbrev pub listed_cost : Graph → (ℕ → ℕ) → List ℕ → ℕ → ℕ
listed_cost g w table e = w e + at_some (g.callee e) (number_in_place table)

-- the number of the node at which an edge starts
abbrev pub IsSourceKey : FlowGraph → ℕ → Option ℕ → Type 0
IsSourceKey v e o = (k : ℕ) × (o ≡ Some k) × (slice_get v.code.nodes k ≡ Some ((graph v).source e))

-- the cycles of the edges that start in the body of loop k, each so often as a table says
abbrev pub body_taken : FlowGraph → LoopView → (ℕ → ℕ) → List ℕ → List ℕ → ℕ → ℕ
body_taken v t w table taken k = sum_below (length v.code.edges) (λ e. number_in_place taken e * only
    ((loops v t).inside k ((graph v).source e)) (listed_cost (graph v) w table e))
