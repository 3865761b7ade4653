-- The least bad address among some, put together of parts.
use Rattle.std.proofs.Common.{◌≡◌, ℕ, ◌+◌, ◌<◌, ◌≤◌, Bool, true, false, ◌⊎◌, inl, inr, ⊎_elim, List, Option, Some, None, sym, ap, ◌∙◌, subst, arith}
use Rattle.std.specs.Prelude.{slice_get, nat_le, IfSome, IfNone}
use Rattle.std.proofs.lemmas.Bool.{cases_Bool, cases_lt, leb-true, leb-false, cond-true, cond-false}
use Rattle.scale_base.specs.Least.{lesser_of}
use Rattle.scale_base.specs.declared.ranges.Range.{Range}
use Rattle.foreign_scan.specs.Least.{IsLeastBadOf, IsFromUpTo, IsInRanges}
use Rattle.foreign_scan.specs.Scanned.{IsLeastAddress}

differ : (b : Bool) (P : Type 0) → b ≡ false → b ≡ true → P
differ b P fails holds = absurd cc

-- the least of two parts
pub least_join : (bad : ℕ → Bool) (P Q R : ℕ → Type 0) → ((a : ℕ) → R a → P a ⊎ Q a) → (o p : Option ℕ) → IsLeastBadOf bad P o → IsLeastBadOf bad Q p → IsLeastBadOf bad R (lesser_of o p)
least_join bad P Q R parts None None left right = λ a r. ⊎_elim (λ h. left a h) (λ h. right a h) (parts a r)
least_join bad P Q R parts None (Some y) left right = (right.0, λ a r is. ⊎_elim (λ h. differ (bad a) (y ≤ a) (left a h) is) (λ h. right.1 a h is) (parts a r))
least_join bad P Q R parts (Some x) None left right = (left.0, λ a r is. ⊎_elim (λ h. left.1 a h is) (λ h. differ (bad a) (x ≤ a) (right a h) is) (parts a r))
least_join bad P Q R parts (Some x) (Some y) left right =
    elim (cases_Bool (nat_le x y)) [
      | inl holds ↦
          let low : x ≤ y = leb-true x y holds in
          subst (IsLeastBadOf bad R) (sym (cond-true (nat_le x y) (Some x) (Some y) holds))
          (left.0, λ a r is. ⊎_elim (λ h. left.1 a h is) (λ h. let high : y ≤ a = right.1 a h is in omega (arith, low, high)) (parts a r))
      | inr fails ↦
          let low : y < x = leb-false x y fails in
          subst (IsLeastBadOf bad R) (sym (cond-false (nat_le x y) (Some x) (Some y) fails))
          (right.0, λ a r is. ⊎_elim (λ h. let high : x ≤ a = left.1 a h is in omega (arith, low, high)) (λ h. right.1 a h is) (parts a r))
    ]

-- where all bad addresses are among them it is the least of all that are bad
pub least_some : (bad : ℕ → Bool) (R B : ℕ → Type 0) → ((a : ℕ) → bad a ≡ true → B a) → ((a : ℕ) → B a → (bad a ≡ true) × R a) → (o : Option ℕ) → IsLeastBadOf bad R o → IfSome o (λ at. IsLeastAddress B at)
least_some bad R B from to None h = tt
least_some bad R B from to (Some at) h = (from at h.0, λ lower less is. let b = to lower is in let high : at ≤ lower = h.1 lower b.1 b.0 in omega (arith, less, high))

pub least_none : (bad : ℕ → Bool) (R B : ℕ → Type 0) → ((a : ℕ) → B a → (bad a ≡ true) × R a) → (o : Option ℕ) → IsLeastBadOf bad R o → IfNone o ((a : ℕ) → B a → ⊥)
least_none bad R B to None h = λ a is. let b = to a is in differ (bad a) ⊥ (h a b.1) b.0
least_none bad R B to (Some at) h = tt

-- ---- ranges

pub no_ranges : (ranges : List Range) (a : ℕ) → IsInRanges ranges 0 a → ⊥
no_ranges ranges a h = let low = h.2 in omega (arith, low)

some_same : {A : Type 0} (x y : A) → Some x ≡ Some y → x ≡ y
some_same x y e = cc

pub below_or_last : (k n : ℕ) → k < n + 1 → (k < n) ⊎ (k ≡ n)
below_or_last k n lt = elim (cases_lt k n) [ inl l ↦ inl l | inr g ↦ inr (omega (arith, lt, g)) ]

pub ranges_more : (ranges : List Range) (n : ℕ) (r : Range) → slice_get ranges n ≡ Some r → (a : ℕ) → IsInRanges ranges (n + 1) a → IsInRanges ranges n a ⊎ IsFromUpTo r.from r.to a
ranges_more ranges n r at a h =
    elim (below_or_last h.0 n h.2) [
      | inl low ↦ inl (h.0, h.1, low, h.3, h.4)
      | inr same ↦ inr (subst (λ (t : Range). IsFromUpTo t.from t.to a) (some_same h.1 r (sym h.3 ∙ (ap (slice_get ranges) same ∙ at))) h.4)
    ]

-- one range more
pub least_ranges : (bad : ℕ → Bool) (ranges : List Range) (n : ℕ) (r : Range) (o p least : Option ℕ) → slice_get ranges n ≡ Some r → IsLeastBadOf bad (IsInRanges ranges n) o → IsLeastBadOf bad (IsFromUpTo r.from r.to) p → least ≡ lesser_of o p
    → IsLeastBadOf bad (IsInRanges ranges (n + 1)) least
least_ranges bad ranges n r o p least at before found is =
    subst (IsLeastBadOf bad (IsInRanges ranges (n + 1))) (sym is) (least_join bad (IsInRanges ranges n) (IsFromUpTo r.from r.to) (IsInRanges ranges (n + 1)) (ranges_more ranges n r at) o p before found)
