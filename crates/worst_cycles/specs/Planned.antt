-- Scaffold: what is known of a graph whose nodes are in order, and of one whose nodes are all visited.
use Rattle.std.specs.Prelude.{◌≡◌, List, ℕ, length}
use Rattle.flow_graph.specs.FlowGraph.{FlowGraph, IsFlowGraph}
use Rattle.loop_forest.specs.Tree.{LoopView}
use Rattle.worst_cycles.specs.declared.plan.Plan.{Plan}
use Rattle.worst_cycles.specs.declared.visits.Visit.{Visit}
use Rattle.worst_cycles.specs.declared.planned.PlannedGraph.{PlannedGraph}
use Rattle.worst_cycles.specs.declared.planned.VisitedGraph.{VisitedGraph}
use Rattle.worst_cycles.specs.Worst.{by_edge, AreUpTo}
use Rattle.worst_cycles.specs.Needs.{HasTree}
use Rattle.worst_cycles.specs.Visits.{IsWorstPlan, AreAllVisited}
use Rattle.worst_cycles.specs.Lefts.{HasSolved}

-- a graph with accepted loops, a weight for each edge, and what is known of the nodes before the pass
pub record IsPlannedBy (v : FlowGraph) (t : LoopView) (w : List ℕ) (p : Plan) : Type 0 where
  pub flow : IsFlowGraph v
  pub tree : HasTree v t
  pub plan : IsWorstPlan v t p
  pub weights : length w ≡ length v.code.edges
  pub heaviest : AreUpTo w p.heaviest

abbrev pub IsPlannedGraph : PlannedGraph → Type 0
IsPlannedGraph g = IsPlannedBy g.graph.now g.tree.now g.weights.now g.plan.now

-- all its nodes are visited, and its worst cycles are in range
pub record IsVisited (v : FlowGraph) (t : LoopView) (w : List ℕ) (p : Plan) (found : List Visit) : Type 0 where
  pub planned : IsPlannedBy v t w p
  pub visits : AreAllVisited v t (by_edge w) found
  pub solved : HasSolved v t (by_edge w)

abbrev pub IsVisitedGraph : VisitedGraph → Type 0
IsVisitedGraph g = IsVisited g.planned.graph.now g.planned.tree.now g.planned.weights.now g.planned.plan.now g.visits.now
