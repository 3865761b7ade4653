use Rattle.std.proofs.Common.{◌≡◌, ℕ, ◌<◌, length}
use Rattle.flow_graph.specs.FlowGraph.{graph as graph_seen}
use Rattle.loop_forest.specs.Tree.{loops, IsInnermost}
use Rattle.worst_walks.specs.Tallies.{key_at}
use Rattle.worst_walks.proofs.keys.begun_loops.Given as goal

abbrev pub invariant-loop-f : goal.invariant-loop-f
invariant-loop-f l = record { size : length l.keys.items ≡ l.f; each : (d : ℕ) → d < l.f → IsInnermost (loops l.graph l.tree) ((graph_seen l.graph).entry d) (key_at l.keys.items d) }
