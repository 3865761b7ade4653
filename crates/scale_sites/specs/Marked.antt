-- Scaffold: what is known of a graph, its loops and those that are counted, wherever edges are marked.
use Rattle.std.specs.Prelude.{ℕ, Bool, List, length, ◌≤◌}
use Rattle.flow_graph.specs.FlowGraph.{FlowGraph, IsFlowGraph}
use Rattle.loop_forest.specs.Tree.{LoopView, IsLoopTree}
use Rattle.scale_sites.specs.Marks.{AreBelow}
use Rattle.scale_sites.specs.declared.marking.Marking.{Marking}

-- a graph with accepted loops, some of which are counted, no more than there are counters
pub record IsMarkable (v : FlowGraph) (t : LoopView) (counted : List ℕ) : Type 0 where
  pub flow : IsFlowGraph v
  pub tree : (extent : ℕ → ℕ → Bool) × IsLoopTree v extent t
  pub counters : length counted ≤ 509
  pub below : AreBelow (length t.headers) counted

abbrev pub IsMarkableGraph : Marking → Type 0
IsMarkableGraph m = IsMarkable m.graph.now m.tree.now m.counted.now
