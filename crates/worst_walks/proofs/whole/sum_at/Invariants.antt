use Rattle.std.proofs.Common.{◌≡◌, take}
use Rattle.cost_theory.specs.Graph.{total}
use Rattle.graph_algorithms.specs.Arcs.{number_in_place}
use Rattle.worst_walks.proofs.whole.sum_at.Given as goal

abbrev pub invariant-loop-place : goal.invariant-loop-place
invariant-loop-place l = l.sum ≡ total (number_in_place l.table) (take l.place-index l.places)
