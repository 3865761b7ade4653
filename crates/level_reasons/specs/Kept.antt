-- Scaffold: a program with its numbers, as the code keeps them.
use Rattle.std.specs.Prelude.{◌≡◌, ℕ, ◌^◌, ◌<◌, Bool, length, slice_get, Some}
use Rattle.power_model.specs.Numbers.{IsPowerModel}
use Rattle.flow_graph.specs.FlowGraph.{IsFlowGraph}
use Rattle.loop_forest.specs.Tree.{IsLoopTree}
use Rattle.level_reasons.specs.declared.numbered.Numbered.{Numbered}
use Rattle.level_reasons.specs.Reasons.{ProgramNumbers}

-- a machine, a graph and its loops, a starting level, and as many numbers as there are edges and loops
pub record IsNumbered (x : Numbered) : Type 0 where
  pub power : IsPowerModel x.power.now
  pub flow : IsFlowGraph x.graph.now
  pub tree : (extent : ℕ → ℕ → Bool) × IsLoopTree x.graph.now extent x.tree.now
  pub start : x.start < length x.power.now.levels
  pub slacks_size : length x.worst.now.slacks ≡ length x.graph.now.code.edges
  pub rests_size : length x.worst.now.rests ≡ length x.graph.now.code.edges
  pub turns_size : length x.worst.now.iteration ≡ length x.tree.now.headers
  pub after_size : length x.least.now.after ≡ length x.graph.now.code.edges
  pub after_small : (e z : ℕ) → slice_get x.least.now.after e ≡ Some (Some z) → z < 2 ^ 89

-- these are the numbers that are kept
pub record HoldsNumbers (x : Numbered) (n : ProgramNumbers) : Type 0 where
  pub slack : (e : ℕ) → e < length x.graph.now.code.edges → slice_get x.worst.now.slacks e ≡ Some (n.told e).slack
  pub left : (e : ℕ) → e < length x.graph.now.code.edges → slice_get x.worst.now.rests e ≡ Some (n.told e).left
  pub least : (e : ℕ) → e < length x.graph.now.code.edges → slice_get x.least.now.after e ≡ Some (n.told e).least
  pub turn : (k : ℕ) → k < length x.tree.now.headers → slice_get x.worst.now.iteration k ≡ Some (n.turn k)
