use Rattle.std.proofs.Common.{ℕ, ◌<◌, Some}
use Rattle.cost_theory.specs.Graph.{IsClosing}
use Rattle.cost_theory.specs.Lists.{body_of}
use Rattle.graph_algorithms.specs.Nesting.{bodies_of}
use Rattle.flow_graph.specs.FlowGraph.{graph as graph_seen}
use Rattle.loop_forest.specs.Tree.{loops}
use Rattle.worst_walks.proofs.parts.are_turns.Given as goal

abbrev pub invariant-loop-l : goal.invariant-loop-l
invariant-loop-l s = (k : ℕ) → k < s.l → IsClosing (graph_seen s.graph) (loops s.graph s.tree) k (Some ((loops s.graph s.tree).header k)) (body_of (bodies_of s.turns) k)
