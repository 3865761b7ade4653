use Rattle.std.proofs.Common.{◌≡◌, ◌==◌, drop, length}
use Rattle.std.specs.List.{list_all}
use Rattle.machine_file.specs.Pairs.{rows_view}
use Rattle.machine_file.proofs.pairs.have_width.Given as goal

-- the rows so far have so many numbers
abbrev pub invariant-loop-row : goal.invariant-loop-row
invariant-loop-row l = list_all (λ row. length row == l.count) (rows_view (drop l.row-index l.rows)) ≡ list_all (λ row. length row == l.count) (rows_view l.rows)
