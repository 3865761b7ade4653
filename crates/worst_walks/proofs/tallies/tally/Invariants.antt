use Rattle.std.proofs.Common.{◌≡◌, ℕ, ◌*◌, ◌<◌, length}
use Rattle.cost_theory.specs.Graph.{only, sum_below}
use Rattle.graph_algorithms.specs.Arcs.{number_in_place}
use Rattle.walk_laws.specs.Walks.{is_number}
use Rattle.worst_walks.specs.Tallies.{key_at}
use Rattle.worst_walks.proofs.tallies.tally.Given as goal

abbrev pub invariant-loop-e : goal.invariant-loop-e
invariant-loop-e l = record {
  size : length l.table.items ≡ l.count;
  each : (k : ℕ) → k < l.count → number_in_place l.table.items k ≡ sum_below l.e (λ e. number_in_place l.times e * only (is_number k (key_at l.keys e)) (number_in_place l.costs e));
}
