use Rattle.std.proofs.Common.{◌≡◌, ℕ, ◌*◌, ◌<◌, length, slice_index}
use Rattle.graph_algorithms.specs.Arcs.{number_in_place}
use Rattle.worst_walks.proofs.sums.all_turns.Given as goal

abbrev pub invariant-loop-l : goal.invariant-loop-l
invariant-loop-l s = record { size : length s.turns.items ≡ s.l; each : (k : ℕ) → k < s.l → number_in_place s.turns.items k ≡ number_in_place s.entries k * slice_index s.bounds k }
