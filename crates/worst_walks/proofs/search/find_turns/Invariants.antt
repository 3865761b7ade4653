use Rattle.std.proofs.Common.{◌≡◌, length}
use Rattle.worst_walks.proofs.search.find_turns.Given as goal

abbrev pub invariant-loop-l : goal.invariant-loop-l
invariant-loop-l s = length s.turns.items ≡ s.l
