use Rattle.std.proofs.Common.{◌≡◌, ℕ, ◌+◌, ◌*◌, length, take}
use Rattle.cost_theory.specs.Graph.{total}
use Rattle.worst_walks.specs.Tallies.{taken_sum}
use Rattle.worst_walks.proofs.taken.take_list.Given as goal

abbrev pub invariant-loop-e : goal.invariant-loop-e
invariant-loop-e l = record { size : length l.taken.items ≡ length l.fn.taken.items; taken : (c : ℕ → ℕ) → taken_sum l.taken.items c ≡ taken_sum l.fn.taken.items c + l.times * total c (take l.e-index l.edges) }
