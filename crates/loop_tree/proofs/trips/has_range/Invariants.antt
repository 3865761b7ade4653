use Rattle.std.proofs.Common.{◌≡◌, ◌<◌, ◌≤◌, ℕ, true}
use Rattle.cost_theory.specs.Lists.{is_among}
use Rattle.loop_tree.proofs.trips.has_range.Given as goal

abbrev pub invariant-loop-k : goal.invariant-loop-k
invariant-loop-k l = (j : ℕ) → l.range.from ≤ j → j < l.k → is_among j l.numbers ≡ true
