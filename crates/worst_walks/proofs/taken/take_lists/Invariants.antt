use Rattle.std.proofs.Common.{◌≡◌, ℕ, ◌+◌, length}
use Rattle.graph_algorithms.specs.Nesting.{bodies_of}
use Rattle.worst_walks.specs.Tallies.{taken_sum, lists_sum}
use Rattle.worst_walks.proofs.taken.take_lists.Given as goal

abbrev pub invariant-loop-l : goal.invariant-loop-l
invariant-loop-l s = record { size : length s.taken.items ≡ length s.fn.taken.items; taken : (c : ℕ → ℕ) → taken_sum s.taken.items c ≡ taken_sum s.fn.taken.items c + lists_sum s.l (bodies_of s.lists) s.times c }
