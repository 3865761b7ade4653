use Rattle.std.proofs.Common.{◌≡◌, length}
use Rattle.worst_walks.proofs.times.table_part.Given as goal

abbrev pub invariant-loop-i : goal.invariant-loop-i
invariant-loop-i l = length l.part.items ≡ l.i
