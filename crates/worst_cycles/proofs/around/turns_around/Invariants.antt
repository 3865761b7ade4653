use Rattle.std.proofs.Common.{◌≡◌, ℕ, ◌*◌, ◌^◌, ◌≤◌, length}
use Rattle.graph_algorithms.specs.Arcs.{number_in_place}
use Rattle.worst_cycles.specs.Worst.{by_edge}
use Rattle.worst_cycles.proofs.AroundLaws.{AreTurnsTo}
use Rattle.worst_cycles.proofs.around.turns_around.Given as goal

abbrev pub invariant-loop-l : goal.invariant-loop-l
invariant-loop-l l = record {
  size : length l.around.items ≡ length l.visited.planned.graph.now.code.nodes;
  small : (k : ℕ) → number_in_place l.around.items k ≤ l.l * 2 ^ 48;
  turns : AreTurnsTo l.visited.planned.graph.now l.visited.planned.tree.now (by_edge l.visited.planned.weights.now) l.l l.around.items;
}
