-- Scaffold: the cycles of functions and of loops alone, as tallies.
use Rattle.std.specs.Prelude.{◌≡◌, ℕ, ◌+◌, ◌*◌, ◌<◌, List, length, Option}
use Rattle.flow_graph.specs.FlowGraph.{FlowGraph, graph}
use Rattle.loop_forest.specs.Tree.{LoopView, loops, IsInnermost}
use Rattle.cost_theory.specs.Graph.{sum_below}
use Rattle.graph_algorithms.specs.Arcs.{number_in_place}
use Rattle.worst_cycles.specs.Worst.{by_edge}
use Rattle.worst_walks.specs.Fitted.{AreOnes}
use Rattle.worst_walks.specs.declared.own.OwnCycles.{OwnCycles}
use Rattle.worst_walks.specs.Tallies.{IsTally, key_at, outside_of}

pub record AreOwn (v : FlowGraph) (t : LoopView) (taken wide : List ℕ) (own : OwnCycles) : Type 0 where
  -- by edge, the innermost loop round the node at which it starts, and that node's function where there is none
  pub inner : List (Option ℕ)
  pub outside : List (Option ℕ)
  pub inner_size : length inner ≡ length v.code.edges
  pub inner_is : (e : ℕ) → e < length v.code.edges → IsInnermost (loops v t) ((graph v).source e) (key_at inner e)
  pub outside_size : length outside ≡ length v.code.edges
  pub outside_is : (e : ℕ) → e < length v.code.edges → key_at outside e ≡ outside_of ((graph v).owner ((graph v).source e)) (key_at inner e)
  pub loops_are : IsTally (length t.headers) inner taken wide own.loops.items
  pub functions_are : IsTally (length v.code.functions) outside taken wide own.functions.items

-- by loop, the back edges that are taken
pub record AreTurns (v : FlowGraph) (t : LoopView) (taken turns : List ℕ) : Type 0 where
  pub ones : List ℕ
  pub one : AreOnes (length v.code.edges) ones
  pub tally : IsTally (length t.headers) t.backs taken ones turns

-- the own cycles of functions and loops, which add up to the cycles of the taken edges
pub record AreWhole (v : FlowGraph) (t : LoopView) (weights taken : List ℕ) (worst : ℕ) (own : OwnCycles) : Type 0 where
  pub wide : List ℕ
  pub wide_size : length wide ≡ length v.code.edges
  pub wide_is : (e : ℕ) → e < length v.code.edges → number_in_place wide e ≡ by_edge weights e
  pub own_is : AreOwn v t taken wide own
  pub takes : worst ≡ sum_below (length wide) (λ e. number_in_place taken e * number_in_place wide e)
  pub adds_up : sum_below (length own.functions.items) (number_in_place own.functions.items) + sum_below (length own.loops.items)
      (number_in_place own.loops.items) ≡ worst
