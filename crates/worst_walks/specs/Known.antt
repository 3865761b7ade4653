-- Scaffold: a program whose worst cycles are known.
use Rattle.std.specs.Prelude.{◌≡◌, ℕ, Bool, List, length}
use Rattle.flow_graph.specs.FlowGraph.{FlowGraph}
use Rattle.loop_forest.specs.Tree.{LoopView, IsLoopTree}
use Rattle.worst_cycles.specs.Worst.{WorstView, HasLeftSizes}
use Rattle.worst_walks.specs.declared.search.Known.{Known}
use Rattle.worst_walks.specs.declared.counts.WalkCounts.{WalkCounts}
use Rattle.worst_walks.specs.declared.whole.WholeCycles.{WholeCycles}

pub record IsKnownBy (v : FlowGraph) (t : LoopView) (weights : List ℕ) (x : WorstView) : Type 0 where
  pub tree : (extent : ℕ → ℕ → Bool) × IsLoopTree v extent t
  pub weights_size : length weights ≡ length v.code.edges
  pub worst_size : length x.worst ≡ length v.code.functions
  pub sizes : HasLeftSizes v x

abbrev pub IsKnown : Known → Type 0
IsKnown k = IsKnownBy k.graph.now k.tree.now k.weights.now k.worst.now

-- one number for each edge, function and loop
pub record HasCountSizes (v : FlowGraph) (t : LoopView) (x : WalkCounts) : Type 0 where
  pub taken : length x.taken.items ≡ length v.code.edges
  pub calls : length x.calls.items ≡ length v.code.functions
  pub entries : length x.entries.items ≡ length t.headers
  pub turns : length x.turns.items ≡ length t.headers
  pub function_own : length x.function_own.items ≡ length v.code.functions
  pub loop_own : length x.loop_own.items ≡ length t.headers

pub record HasWholeSizes (v : FlowGraph) (t : LoopView) (all : WholeCycles) : Type 0 where
  pub functions : length all.functions.items ≡ length v.code.functions
  pub loops : length all.loops.items ≡ length t.headers
