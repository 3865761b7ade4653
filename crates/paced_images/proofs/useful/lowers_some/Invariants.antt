use Rattle.std.proofs.Common.{◌≡◌, ℕ, ◌<◌, false, ◌&&◌}
use Rattle.std.specs.Prelude.{nat_le, nat_lt}
use Rattle.level_tables.specs.Budgets.{meets_in_budget, budget_at}
use Rattle.level_tables.specs.Tables.{entry_by}
use Rattle.paced_images.proofs.useful.lowers_some.Given as goal

abbrev pub invariant-loop-i : goal.invariant-loop-i
invariant-loop-i l = (k : ℕ) → k < l.i → (nat_le k l.start && nat_lt (entry_by (meets_in_budget l.power (budget_at l.budgets)) l.told k) k) ≡ false
