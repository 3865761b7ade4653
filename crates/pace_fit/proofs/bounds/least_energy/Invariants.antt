use Rattle.std.proofs.Common.{◌≡◌, ◌^◌, ◌≤◌, map}
use Rattle.std.specs.List.{range_with_len}
use Rattle.pace_fit.specs.Least.{bound_at, bound_with, greatest}
use Rattle.pace_fit.proofs.bounds.least_energy.Given as goal

-- the greatest bound so far
abbrev pub invariant-loop-j : goal.invariant-loop-j
invariant-loop-j l = record {
  value : l.most ≡ greatest (bound_at l.power l.cycles 0 1) (map (bound_with l.power l.cycles) (range_with_len 0 l.j));
  small : l.most ≤ 2 ^ 121;
}
