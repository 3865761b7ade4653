use Rattle.std.proofs.Common.{◌≡◌, ℕ, ◌<◌, length}
use Rattle.cost_theory.specs.Graph.{total}
use Rattle.cost_theory.specs.Lists.{body_of}
use Rattle.graph_algorithms.specs.Arcs.{number_in_place}
use Rattle.worst_walks.proofs.whole.body_sums.Given as goal

abbrev pub invariant-loop-l : goal.invariant-loop-l
invariant-loop-l s = record { size : length s.sums.items ≡ s.l; each : (k : ℕ) → k < s.l → number_in_place s.sums.items k ≡ total (number_in_place s.by_node) (body_of s.tree.bodies k) }
