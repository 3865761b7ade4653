use Rattle.std.proofs.Common.{◌≡◌, map}
use Rattle.std.specs.List.{range_with_len}
use Rattle.level_tables.specs.Tables.{row_by}
use Rattle.level_tables.specs.Budgets.{meets_in_budget, budget_at}
use Rattle.level_tables.proofs.exit_rows_within.Given as goal

abbrev pub invariant-loop-j : goal.invariant-loop-j
invariant-loop-j l = record {
  rows : l.rows ≡ map (row_by l.power (meets_in_budget l.power (budget_at l.budgets)) l.bound l.iteration l.edge) (range_with_len 0 l.j);
}
