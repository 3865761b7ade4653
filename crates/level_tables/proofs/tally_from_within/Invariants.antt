use Rattle.std.proofs.Common.{◌≡◌, ◌-◌, ◌*◌, ◌^◌, ◌<◌, ◌≤◌, ℕ, true, false}
use Rattle.level_tables.specs.Tables.{behind_turns, goes_lowest, tally_shift}
use Rattle.level_tables.specs.Budgets.{meets_in_budget, budget_at}
use Rattle.level_tables.proofs.tally_from_within.Given as goal

-- it fails below `low`, and passes at `high` if that is below 2047
abbrev pub invariant-loop-low : goal.invariant-loop-low
invariant-loop-low l = record {
  some : 1 ≤ l.low;
  order : l.low ≤ l.high;
  few : l.high ≤ 2047;
  shift : l.s ≡ tally_shift l.bound;
  fails : (k : ℕ) → 1 ≤ k → k < l.low → goes_lowest l.power (meets_in_budget l.power (budget_at l.budgets)) (behind_turns (k * 2 ^ tally_shift l.bound) l.iteration l.edge) ≡ false;
  goes : l.high < 2047 → goes_lowest l.power (meets_in_budget l.power (budget_at l.budgets)) (behind_turns (l.high * 2 ^ tally_shift l.bound) l.iteration l.edge) ≡ true;
}

abbrev pub decreases-loop-low : goal.decreases-loop-low
decreases-loop-low l = l.high - l.low
