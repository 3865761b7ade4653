use Rattle.std.proofs.Common.{◌≡◌, length}
use Rattle.cost_theory.specs.Worst.{Numbers}
use Rattle.flow_graph.specs.FlowGraph.{graph}
use Rattle.loop_forest.specs.Noted.{node_address}
use Rattle.loop_forest.specs.Tree.{loops}
use Rattle.worst_cycles.specs.Worst.{by_edge}
use Rattle.worst_cycles.specs.Visits.{AreSolvedBy}
use Rattle.worst_cycles.proofs.ContextLaws.{AreRaisedTo}
use Rattle.worst_cycles.proofs.contexts.raise_contexts.Given as goal

abbrev pub invariant-loop-e : goal.invariant-loop-e
invariant-loop-e l = record {
  size : length l.context.items ≡ length l.fn.context.items;
  raised : (n : Numbers) → AreSolvedBy l.visited.planned.graph.now l.visited.planned.tree.now (by_edge l.visited.planned.weights.now) n →
      AreRaisedTo (graph l.visited.planned.graph.now) (loops l.visited.planned.graph.now l.visited.planned.tree.now) (by_edge l.visited.planned.weights.now) n (node_address l.visited.planned.graph.now l.k) l.first l.e l.fn.context.items l.context.items;
}
