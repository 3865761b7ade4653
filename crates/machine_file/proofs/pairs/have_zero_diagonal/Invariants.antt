use Rattle.std.proofs.Common.{◌≡◌, ◌==◌, ◌-◌}
use Rattle.std.specs.List.{list_all, range_with_len}
use Rattle.machine_file.specs.Machine.{cell}
use Rattle.machine_file.specs.Pairs.{rows_view}
use Rattle.machine_file.proofs.pairs.have_zero_diagonal.Given as goal

-- the numbers so far are zeros
abbrev pub invariant-loop-i : goal.invariant-loop-i
invariant-loop-i l = list_all (λ i. cell (rows_view l.rows) i i == 0) (range_with_len l.i (l.count - l.i)) ≡ list_all (λ i. cell (rows_view l.rows) i i == 0) (range_with_len 0 l.count)
