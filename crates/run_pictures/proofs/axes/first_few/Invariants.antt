use Rattle.std.proofs.Common.{◌≡◌, ◌-◌, find}
use Rattle.std.specs.List.{range_with_len}
use Rattle.run_pictures.specs.Places.{are_few}
use Rattle.run_pictures.proofs.axes.first_few.Given as goal

-- there are too many ticks with the steps so far
abbrev pub invariant-loop-k : goal.invariant-loop-k
invariant-loop-k l = find (are_few l.end) (range_with_len l.k (l.most - l.k)) ≡ find (are_few l.end) (range_with_len 0 l.most)
