use Rattle.std.proofs.Common.{◌≤◌, length}
use Rattle.switch_search.proofs.building.Places.headers.Given as goal

abbrev pub invariant-loop-c : goal.invariant-loop-c
invariant-loop-c l = length l.headers.items ≤ 8
