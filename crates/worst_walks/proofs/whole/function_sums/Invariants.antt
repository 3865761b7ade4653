use Rattle.std.proofs.Common.{◌≡◌, ℕ, ◌*◌, ◌<◌, length}
use Rattle.graph_algorithms.specs.Arcs.{number_in_place}
use Rattle.worst_walks.proofs.whole.function_sums.Given as goal

abbrev pub invariant-loop-f : goal.invariant-loop-f
invariant-loop-f l = record { size : length l.sums.items ≡ l.f; each : (k : ℕ) → k < l.f → number_in_place l.sums.items k ≡ number_in_place l.calls k * number_in_place l.worst.worst k }
