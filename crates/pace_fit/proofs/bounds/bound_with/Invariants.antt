use Rattle.std.proofs.Common.{◌≡◌, ◌^◌, ◌≤◌, map}
use Rattle.std.specs.List.{range_with_len}
use Rattle.pace_fit.specs.Least.{greatest, pair_bound}
use Rattle.pace_fit.proofs.bounds.bound_with.Given as goal

-- the greatest bound so far
abbrev pub invariant-loop-i : goal.invariant-loop-i
invariant-loop-i l = record {
  value : l.most ≡ greatest 0 (map (λ i. pair_bound l.power l.cycles i l.j) (range_with_len 0 l.i));
  small : l.most ≤ 2 ^ 121;
}
