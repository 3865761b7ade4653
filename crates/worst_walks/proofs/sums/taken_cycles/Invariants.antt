use Rattle.std.proofs.Common.{◌≡◌, ◌*◌}
use Rattle.cost_theory.specs.Graph.{sum_below}
use Rattle.graph_algorithms.specs.Arcs.{number_in_place}
use Rattle.worst_walks.proofs.sums.taken_cycles.Given as goal

abbrev pub invariant-loop-e : goal.invariant-loop-e
invariant-loop-e l = l.cycles ≡ sum_below l.e (λ e. number_in_place l.taken e * number_in_place l.weights e)
