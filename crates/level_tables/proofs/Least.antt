-- The budgets of the first switch, and the least budgets of some entries.
use Rattle.std.proofs.Common.{◌≡◌, ℕ, zero, suc, ◌+◌, ◌*◌, ◌<◌, ◌≤◌, max, Bool, true, false, cond, nat_le, List, [], ◌∷◌, length, refl, ap, arith}
use Rattle.std.specs.Prelude.{◌==◌, All}
use Rattle.std.proofs.lemmas.Bool.{eq-eqb, eqb-true, cond-true}
use Rattle.std.proofs.lemmas.Bool.Decides.{nat_tests}
use Rattle.power_model.specs.Levels.{level}
use Rattle.power_model.specs.Numbers.{PowerModel}
use Rattle.power_model.specs.Price.{switch_time}
use Rattle.power_model.specs.Switches.{period}
use Rattle.level_tables.specs.Budgets.{Entry, AreEntries, AreKept, first_budgets, first_need, is_switch_in_budget, least_budgets, most_need, need, raised}
use Rattle.level_tables.specs.Laws.{FirstBudgetsAreBudgets, LeastBudgetsAreLeast}

le_of : (x y : ℕ) → nat_le x y ≡ true → x ≤ y
le_of x y e = grind (arith, nat_tests)

le_test : (x y : ℕ) → x ≤ y → nat_le x y ≡ true
le_test x y e = grind (arith, nat_tests)

-- ---- the budgets of the first switch

by_test : (b : Bool) (x y most : ℕ) → x ≤ most → y ≤ most → cond b x y ≤ most
by_test true x y most low other = low
by_test false x y most low other = other

pub first_are : FirstBudgetsAreBudgets
first_are = λ power start worst enough. record {
  first = (let e : first_budgets power start worst start ≡ worst * period power start = cond-true (start == start) (worst * period power start) power.deadline (eq-eqb start start refl) in omega (arith, e));
  within = λ i low. by_test (i == start) (worst * period power start) power.deadline power.deadline enough (omega arith);
}

-- ---- what entries need

kept_needs : (power : PowerModel) (budget : ℕ → ℕ) (x : Entry) → is_switch_in_budget power budget x.edge x.from x.to ≡ true → need power budget x ≤ budget x.to
kept_needs power budget x e =
    let h = le_of (x.edge.left * (level power.levels x.to).period + switch_time power x.from x.to + budget x.from) ((x.edge.left + x.edge.slack) * (level power.levels x.from).period + budget x.to) e in
    omega (arith, h)

needs_kept : (power : PowerModel) (budget : ℕ → ℕ) (x : Entry) → need power budget x ≤ budget x.to → is_switch_in_budget power budget x.edge x.from x.to ≡ true
needs_kept power budget x h =
    le_test (x.edge.left * (level power.levels x.to).period + switch_time power x.from x.to + budget x.from) ((x.edge.left + x.edge.slack) * (level power.levels x.from).period + budget x.to) (omega (arith, h))

-- more before it needs more behind it
needs_more : (power : PowerModel) (low high : ℕ → ℕ) (x : Entry) → low x.from ≤ high x.from → need power low x ≤ need power high x
needs_more power low high x h = omega (arith, h)

-- the most that entries need is no more than a budget that each is within
most_within : (power : PowerModel) (low budget : ℕ → ℕ) (xs : List Entry) (l : ℕ) → ((i : ℕ) → low i ≤ budget i) → All (λ x. is_switch_in_budget power budget x.edge x.from x.to ≡ true) xs → most_need power low xs l ≤ budget l
most_within power low budget [] l below kept = omega arith
most_within power low budget (x ∷ xs) l below kept =
    let rest = most_within power low budget xs l below (λ k d lt. kept (suc k) d (omega (arith, lt))) in
    let here : cond (x.to == l) (need power low x) 0 ≤ budget l = one (x.to == l) refl in
    omega (arith, rest, here)
  where
    one : (b : Bool) → (x.to == l) ≡ b → cond b (need power low x) 0 ≤ budget l
    one true is =
        let same : x.to ≡ l = eqb-true x.to l is in
        let most = kept_needs power budget x (kept 0 x (omega arith)) in
        let more = needs_more power low budget x (below x.from) in
        let there : budget x.to ≡ budget l = ap budget same in
        omega (arith, most, more, there)
    one false is = omega arith

-- and at least what each of them needs
most_covers : (power : PowerModel) (budget : ℕ → ℕ) (xs : List Entry) (k : ℕ) (d : Entry) → k < length xs → need power budget (Rattle.std.specs.Prelude.slice_index_or xs k d) ≤ most_need power budget xs (Rattle.std.specs.Prelude.slice_index_or xs k d).to
most_covers power budget [] k d lt = let bad : ⊥ = omega arith in absurd bad
most_covers power budget (x ∷ xs) zero d lt =
    let e : cond (x.to == x.to) (need power budget x) 0 ≡ need power budget x = cond-true (x.to == x.to) (need power budget x) 0 (eq-eqb x.to x.to refl) in
    omega (arith, e)
most_covers power budget (x ∷ xs) (suc k) d lt = let rest = most_covers power budget xs k d (omega (arith, lt)) in omega (arith, rest)

-- the most depends on the budgets of higher levels alone
most_same : (power : PowerModel) (a b : ℕ → ℕ) (xs : List Entry) (l : ℕ) → All (λ x. (x.to < x.from) × (x.from < length power.levels)) xs → ((i : ℕ) → l < i → i < length power.levels → a i ≡ b i) → most_need power a xs l ≡ most_need power b xs l
most_same power a b [] l lower same = refl
most_same power a b (x ∷ xs) l lower same =
    let rest = most_same power a b xs l (λ k d lt. lower (suc k) d (omega (arith, lt))) same in
    let here : cond (x.to == l) (need power a x) 0 ≡ cond (x.to == l) (need power b x) 0 = one (x.to == l) refl in
    omega (arith, rest, here)
  where
    one : (t : Bool) → (x.to == l) ≡ t → cond t (need power a x) 0 ≡ cond t (need power b x) 0
    one true is =
        let to : x.to ≡ l = eqb-true x.to l is in
        let down = lower 0 x (omega arith) in
        let equal : a x.from ≡ b x.from = same x.from (let low = down.0 in omega (arith, low, to)) down.1 in
        omega (arith, equal)
    one false is = refl

module _ (power : PowerModel) (xs : List Entry) (start worst : ℕ) (lower : AreEntries power xs) where
  abbrev b : ℕ → ℕ → ℕ
  b n = raised power xs start worst n

  -- behind n times the budgets of the n highest levels are found
  found_after : (n l : ℕ) → length power.levels ≤ l + n → b n l ≡ b (suc n) l
  found_after zero l high =
      let none = most_none xs lower in
      omega (arith, none)
    where
      most_none : (ys : List Entry) → All (λ x. (x.to < x.from) × (x.from < length power.levels)) ys → most_need power (b zero) ys l ≡ 0
      most_none [] low = refl
      most_none (y ∷ ys) low =
          let rest = most_none ys (λ k d lt. low (suc k) d (omega (arith, lt))) in
          let down = low 0 y (omega arith) in
          let here : cond (y.to == l) (need power (b zero) y) 0 ≡ 0 = one (y.to == l) refl down.0 down.1 in
          omega (arith, rest, here)
        where
          one : (t : Bool) → (y.to == l) ≡ t → y.to < y.from → y.from < length power.levels → cond t (need power (b zero) y) 0 ≡ 0
          one true is down few = let to : y.to ≡ l = eqb-true y.to l is in absurd (omega (arith, to, down, few, high))
          one false is down few = refl
  found_after (suc n) l high =
      let same = most_same power (b n) (b (suc n)) xs l lower (λ i above few. found_after n i (omega (arith, above, high))) in
      omega (arith, same)

  fixed : (l : ℕ) → least_budgets power xs start worst l ≡ max (first_need power start worst l) (most_need power (least_budgets power xs start worst) xs l)
  fixed l = found_after (length power.levels) l (omega arith)

  kept : AreKept power (least_budgets power xs start worst) xs start worst
  kept = record {
    first = (let e = fixed start in
        let f : first_need power start worst start ≡ worst * period power start = cond-true (start == start) (worst * period power start) 0 (eq-eqb start start refl) in
        omega (arith, e, f));
    entries = λ k d lt.
        let x = Rattle.std.specs.Prelude.slice_index_or xs k d in
        let covers = most_covers power (least_budgets power xs start worst) xs k d lt in
        let e = fixed x.to in
        needs_kept power (least_budgets power xs start worst) x (omega (arith, covers, e));
  }

  least : (budget : ℕ → ℕ) → AreKept power budget xs start worst → (n i : ℕ) → b n i ≤ budget i
  least budget k n i = by n i
    where
      first_low : (l : ℕ) → first_need power start worst l ≤ budget l
      first_low l = one (l == start) refl
        where
          one : (t : Bool) → (l == start) ≡ t → cond t (worst * period power start) 0 ≤ budget l
          one true is = let same : budget l ≡ budget start = ap budget (eqb-true l start is) in let low = k.first in omega (arith, same, low)
          one false is = omega arith

      by : (n i : ℕ) → b n i ≤ budget i
      by zero i = first_low i
      by (suc n) i =
          let one = first_low i in
          let two = most_within power (b n) budget xs i (λ j. by n j) k.entries in
          omega (arith, one, two)

pub least_are : LeastBudgetsAreLeast
least_are = λ power xs start worst lower. (kept power xs start worst lower, λ budget k i. least power xs start worst lower budget k (length power.levels) i)
