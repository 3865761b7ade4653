use Rattle.std.proofs.Common.{◌≡◌, ℕ, ◌<◌, length, nat_eq}
use Rattle.cost_theory.specs.Graph.{only}
use Rattle.graph_algorithms.specs.Arcs.{number_in_place}
use Rattle.worst_walks.proofs.keys.first_calls.Given as goal

abbrev pub invariant-loop-f : goal.invariant-loop-f
invariant-loop-f l = record { size : length l.calls.items ≡ l.f; each : (d : ℕ) → d < l.f → number_in_place l.calls.items d ≡ only (nat_eq d 0) 1 }
