use Rattle.std.proofs.Common.{◌≡◌, length}
use Rattle.worst_walks.proofs.search.find_paths.Given as goal

abbrev pub invariant-loop-f : goal.invariant-loop-f
invariant-loop-f l = length l.paths.items ≡ l.f
