use Rattle.std.proofs.Common.{◌≡◌, ◌-◌, ◌≤◌, length}
use Rattle.level_tables.specs.Tables.{entry_by, nibbles}
use Rattle.level_tables.specs.Budgets.{meets_in_budget, budget_at}
use Rattle.level_tables.proofs.edge_numbers.EdgeNumbers.word_within.Given as goal

abbrev pub invariant-loop-i : goal.invariant-loop-i
invariant-loop-i l = record {
  up_to : l.i ≤ length l.power.levels;
  few : length l.power.levels ≤ 8;
  word : l.word ≡ nibbles (entry_by (meets_in_budget l.power (budget_at l.budgets)) l.self) l.i (length l.power.levels - l.i);
}

abbrev pub decreases-loop-i : goal.decreases-loop-i
decreases-loop-i l = l.i
