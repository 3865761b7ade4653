use Rattle.std.proofs.Common.{◌≡◌}
use Rattle.cost_theory.specs.Graph.{sum_below}
use Rattle.graph_algorithms.specs.Arcs.{number_in_place}
use Rattle.worst_walks.proofs.sums.table_sum.Given as goal

abbrev pub invariant-loop-k : goal.invariant-loop-k
invariant-loop-k l = l.sum ≡ sum_below l.k (number_in_place l.table)
