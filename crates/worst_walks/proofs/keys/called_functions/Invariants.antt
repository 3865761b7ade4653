use Rattle.std.proofs.Common.{◌≡◌, ℕ, ◌<◌, length}
use Rattle.flow_graph.specs.FlowGraph.{graph as graph_seen}
use Rattle.worst_walks.specs.Tallies.{key_at}
use Rattle.worst_walks.proofs.keys.called_functions.Given as goal

abbrev pub invariant-loop-e : goal.invariant-loop-e
invariant-loop-e l = record { size : length l.keys.items ≡ l.e; each : (d : ℕ) → d < l.e → key_at l.keys.items d ≡ (graph_seen l.graph).callee d }
