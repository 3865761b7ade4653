-- With the deadline as each budget, the test of budgets is that of time.
use Rattle.std.proofs.Common.{◌≡◌, ℕ, ◌+◌, ◌*◌, Bool, true, ◌&&◌, nat_le, arith, false, refl, sym, ap, ◌∙◌}
use Rattle.std.proofs.lemmas.Bool.{and_parts}
use Rattle.std.proofs.lemmas.Bool.Decides.{nat_tests}
use Rattle.power_model.specs.Levels.{level}
use Rattle.power_model.specs.Numbers.{PowerModel}
use Rattle.power_model.specs.Price.{switch_time}
use Rattle.level_tables.specs.Tables.{is_switch_in_time, pays, meets_both}
use Rattle.level_tables.specs.declared.edge_numbers.EdgeNumbers.{EdgeNumbers}
use Rattle.level_tables.specs.Budgets.{is_switch_in_budget, meets_in_budget}

le_less : (x y d : ℕ) → nat_le (x + d) (y + d) ≡ true → nat_le x y ≡ true
le_less x y d e = grind (arith, nat_tests)

le_more : (x y d : ℕ) → nat_le x y ≡ true → nat_le (x + d) (y + d) ≡ true
le_more x y d e = grind (arith, nat_tests)

both_of : (a b : Bool) → a ≡ true → b ≡ true → a && b ≡ true
both_of a b p q = cc

pub both_in_budget : (power : PowerModel) (told : EdgeNumbers) (i j : ℕ) → meets_both power told i j ≡ true → meets_in_budget power (λ k. power.deadline) told i j ≡ true
both_in_budget power told i j met =
    let parts = and_parts (is_switch_in_time power told i j) (pays power told.least i j) met in
    both_of (is_switch_in_budget power (λ k. power.deadline) told i j) (pays power told.least i j)
    (le_more (told.left * (level power.levels j).period + switch_time power i j) ((told.left + told.slack) * (level power.levels i).period) power.deadline parts.0) parts.1

pub both_in_time : (power : PowerModel) (told : EdgeNumbers) (i j : ℕ) → meets_in_budget power (λ k. power.deadline) told i j ≡ true → meets_both power told i j ≡ true
both_in_time power told i j met =
    let parts = and_parts (is_switch_in_budget power (λ k. power.deadline) told i j) (pays power told.least i j) met in
    both_of (is_switch_in_time power told i j) (pays power told.least i j)
    (le_less (told.left * (level power.levels j).period + switch_time power i j) ((told.left + told.slack) * (level power.levels i).period) power.deadline parts.0) parts.1

same_bools : (a b : Bool) → (a ≡ true → b ≡ true) → (b ≡ true → a ≡ true) → a ≡ b
same_bools true true f g = refl
same_bools true false f g = sym (f refl)
same_bools false true f g = g refl
same_bools false false f g = refl

-- so where each budget is the deadline, the two tests are the same
pub budgets_alike : (power : PowerModel) (budget : ℕ → ℕ) → ((i : ℕ) → budget i ≡ power.deadline) → meets_in_budget power budget ≡ meets_both power
budgets_alike power budget alike =
    let same : budget ≡ (λ k. power.deadline) = λ i k. alike k i in
    ap (meets_in_budget power) same ∙ (λ i told a b. same_bools (meets_in_budget power (λ k. power.deadline) told a b) (meets_both power told a b) (both_in_time power told a b) (both_in_budget power told a b) i)
