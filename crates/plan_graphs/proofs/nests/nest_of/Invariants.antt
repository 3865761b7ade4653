use Rattle.std.proofs.Common.{ℕ}
use Rattle.flow_graph.specs.FlowGraph.{graph}
use Rattle.loop_forest.specs.Tree.{loops, IsInnermost}
use Rattle.plan_graphs.proofs.NestLaws.{AreRoundTo, outer_left}
use Rattle.plan_graphs.proofs.nests.nest_of.Given as goal

abbrev pub invariant-loop-next : goal.invariant-loop-next
invariant-loop-next l = (at : ℕ) → IsInnermost (loops l.graph l.tree) at l.fn.inner → AreRoundTo (loops l.graph l.tree) at l.nest.items l.next

abbrev pub decreases-loop-next : goal.decreases-loop-next
decreases-loop-next l = outer_left (graph l.graph) (loops l.graph l.tree) l.next
