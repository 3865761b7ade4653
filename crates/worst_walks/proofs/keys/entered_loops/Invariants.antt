use Rattle.std.proofs.Common.{◌≡◌, ℕ, ◌<◌, ◌↔◌, length, true, Some}
use Rattle.cost_theory.specs.Graph.{enters}
use Rattle.flow_graph.specs.FlowGraph.{graph as graph_seen}
use Rattle.loop_forest.specs.Tree.{loops}
use Rattle.worst_walks.specs.Tallies.{key_at}
use Rattle.worst_walks.proofs.keys.entered_loops.Given as goal

abbrev pub invariant-loop-e : goal.invariant-loop-e
invariant-loop-e l = record { size : length l.keys.items ≡ l.e; each : (d : ℕ) → d < l.e → (k : ℕ) → (key_at l.keys.items d ≡ Some k) ↔ ((k < length l.tree.headers) × (enters (loops l.graph l.tree) k ((graph_seen l.graph).source d) ((graph_seen l.graph).target d) ≡ true)) }
