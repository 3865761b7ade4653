use Rattle.std.proofs.Common.{◌≡◌, ℕ, ◌<◌, length}
use Rattle.flow_graph.specs.FlowGraph.{graph as graph_seen}
use Rattle.loop_forest.specs.Tree.{loops, IsInnermost}
use Rattle.worst_walks.specs.Tallies.{key_at}
use Rattle.worst_walks.proofs.keys.innermost_loops.Given as goal

abbrev pub invariant-loop-e : goal.invariant-loop-e
invariant-loop-e l = record { size : length l.keys.items ≡ l.e; each : (d : ℕ) → d < l.e → IsInnermost (loops l.graph l.tree) ((graph_seen l.graph).source d) (key_at l.keys.items d) }
