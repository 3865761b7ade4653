use Rattle.std.proofs.Common.{◌≡◌, ◌<◌, ℕ, false}
use Rattle.level_tables.specs.Budgets.{meets_in_budget, budget_at}
use Rattle.level_tables.proofs.edge_numbers.EdgeNumbers.entry_within.Given as goal

abbrev pub invariant-loop-l : goal.invariant-loop-l
invariant-loop-l l = record {
  fails : (k : ℕ) → k < l.l → meets_in_budget l.power (budget_at l.budgets) l.self l.from k ≡ false;
}
