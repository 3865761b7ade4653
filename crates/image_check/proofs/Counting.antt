-- What the fragments of an edge do to one counter, by how often they count it and set it back.
use Rattle.std.proofs.Common.{◌≡◌, ◌⊎◌, inl, inr, ℕ, ◌+◌, Bool, true, false, cond, List, [], ◌∷◌, refl, arith, ap, ◌∙◌}
use Rattle.std.specs.Prelude.{◌==◌, if◌then◌else◌}
use Rattle.std.specs.List.{sum_by}
use Rattle.std.proofs.lemmas.List.Sums.{sum_by-cons}
use Rattle.scale_base.specs.Image.{Image}
use Rattle.cost_theory.specs.Graph.{Loops}
use Rattle.stored_runs.specs.Marks.{counters_after, counters_behind}
use Rattle.foreign_scan.specs.declared.fragment.ForeignFragment.{ForeignFragment}
use Rattle.foreign_scan.specs.declared.fragment.ForeignFragment.TheVariants.{Switch, Exit, Reset, Count}
use Rattle.image_check.specs.Safe.{Owner, with_rows, all_with_rows, counts_it, clears_it}

-- one counter behind one fragment
abbrev number_after : ℕ → ForeignFragment → ℕ → ℕ
number_after w (Switch word) n = n
number_after w (Exit counter shift table) n = if w == counter then 0 else n
number_after w (Reset counter) n = if w == counter then 0 else n
number_after w (Count counter) n = if w == counter then n + 1 else n

abbrev numbers_after : ℕ → List ForeignFragment → ℕ → ℕ
numbers_after w [] n = n
numbers_after w (f ∷ fs) n = numbers_after w fs (number_after w f n)

-- what a fragment does to it
abbrev Leaves : ℕ → ForeignFragment → Type 0
Leaves w f = (counts_it w f ≡ 0) × (clears_it w f ≡ 0) × ((n : ℕ) → number_after w f n ≡ n)

abbrev Counts : ℕ → ForeignFragment → Type 0
Counts w f = (counts_it w f ≡ 1) × (clears_it w f ≡ 0) × ((n : ℕ) → number_after w f n ≡ n + 1)

abbrev Clears : ℕ → ForeignFragment → Type 0
Clears w f = (counts_it w f ≡ 0) × (clears_it w f ≡ 1) × ((n : ℕ) → number_after w f n ≡ 0)

abbrev Same : ℕ → ℕ → Type 0
Same a b = a ≡ b

does : (w : ℕ) (f : ForeignFragment) → Leaves w f ⊎ (Counts w f ⊎ Clears w f)
does w (Switch word) = inl (refl, refl, λ n. refl)
does w (Exit counter shift table) = by_test (w == counter)
  where
    by_test : (b : Bool) → (Same 0 0 × Same (cond b 1 0) 0 × ((n : ℕ) → cond b 0 n ≡ n)) ⊎ ((Same 0 1 × Same (cond b 1 0) 0 × ((n : ℕ) → cond b 0 n ≡ n + 1)) ⊎ (Same 0 0 × Same (cond b 1 0) 1 × ((n : ℕ) → Same (cond b 0 n) 0)))
    by_test true = inr (inr (refl, refl, λ n. refl))
    by_test false = inl (refl, refl, λ n. refl)
does w (Reset counter) = by_test (w == counter)
  where
    by_test : (b : Bool) → (Same 0 0 × Same (cond b 1 0) 0 × ((n : ℕ) → cond b 0 n ≡ n)) ⊎ ((Same 0 1 × Same (cond b 1 0) 0 × ((n : ℕ) → cond b 0 n ≡ n + 1)) ⊎ (Same 0 0 × Same (cond b 1 0) 1 × ((n : ℕ) → Same (cond b 0 n) 0)))
    by_test true = inr (inr (refl, refl, λ n. refl))
    by_test false = inl (refl, refl, λ n. refl)
does w (Count counter) = by_test (w == counter)
  where
    by_test : (b : Bool) → (Same (cond b 1 0) 0 × Same 0 0 × ((n : ℕ) → cond b (n + 1) n ≡ n)) ⊎ ((Same (cond b 1 0) 1 × Same 0 0 × ((n : ℕ) → cond b (n + 1) n ≡ n + 1)) ⊎ (Same (cond b 1 0) 0 × Same 0 1 × ((n : ℕ) → Same (cond b (n + 1) n) 0)))
    by_test true = inr (inl (refl, refl, λ n. refl))
    by_test false = inl (refl, refl, λ n. refl)

abbrev all_counts : ℕ → List ForeignFragment → ℕ
all_counts w fs = sum_by (counts_it w) fs

abbrev all_clears : ℕ → List ForeignFragment → ℕ
all_clears w fs = sum_by (clears_it w) fs

none_numbers : (w : ℕ) (fs : List ForeignFragment) (n : ℕ) → all_counts w fs ≡ 0 → all_clears w fs ≡ 0 → numbers_after w fs n ≡ n
none_numbers w [] n a b = refl
none_numbers w (f ∷ fs) n a b =
    let x = sum_by-cons (counts_it w) f fs in
    let y = sum_by-cons (clears_it w) f fs in
    elim (does w f) [
      | inl stays ↦ ap (numbers_after w fs) (stays.2 n) ∙ none_numbers w fs n (omega (arith, a, x)) (omega (arith, b, y))
      | inr (inl counts) ↦ absurd (let c = counts.0 in omega (arith, a, x, c))
      | inr (inr clears) ↦ absurd (let c = clears.1 in omega (arith, b, y, c))
    ]

one_more : (w : ℕ) (fs : List ForeignFragment) (n : ℕ) → all_counts w fs ≡ 1 → all_clears w fs ≡ 0 → numbers_after w fs n ≡ n + 1
one_more w [] n a b = absurd (omega (arith, a))
one_more w (f ∷ fs) n a b =
    let x = sum_by-cons (counts_it w) f fs in
    let y = sum_by-cons (clears_it w) f fs in
    elim (does w f) [
      | inl stays ↦ ap (numbers_after w fs) (stays.2 n) ∙ one_more w fs n (let c = stays.0 in omega (arith, a, x, c)) (omega (arith, b, y))
      | inr (inl counts) ↦ ap (numbers_after w fs) (counts.2 n) ∙ none_numbers w fs (n + 1) (let c = counts.0 in omega (arith, a, x, c)) (omega (arith, b, y))
      | inr (inr clears) ↦ absurd (let c = clears.1 in omega (arith, b, y, c))
    ]

set_back : (w : ℕ) (fs : List ForeignFragment) (n : ℕ) → all_counts w fs ≡ 0 → all_clears w fs ≡ 1 → numbers_after w fs n ≡ 0
set_back w [] n a b = absurd (omega (arith, b))
set_back w (f ∷ fs) n a b =
    let x = sum_by-cons (counts_it w) f fs in
    let y = sum_by-cons (clears_it w) f fs in
    elim (does w f) [
      | inl stays ↦ ap (numbers_after w fs) (stays.2 n) ∙ set_back w fs n (omega (arith, a, x)) (let c = stays.1 in omega (arith, b, y, c))
      | inr (inl counts) ↦ absurd (let c = counts.0 in omega (arith, a, x, c))
      | inr (inr clears) ↦ ap (numbers_after w fs) (clears.2 n) ∙ none_numbers w fs 0 (omega (arith, a, x)) (let c = clears.1 in omega (arith, b, y, c))
    ]

module _ (image : Image) (l : Loops) (owner : Owner) where
  one_after : (f : ForeignFragment) (c : ℕ → ℕ) (w : ℕ) → counters_after (with_rows image l owner f) c w ≡ number_after w f (c w)
  one_after (Switch word) c w = refl
  one_after (Exit counter shift table) c w = refl
  one_after (Reset counter) c w = refl
  one_after (Count counter) c w = refl

  numbers_are : (fs : List ForeignFragment) (c : ℕ → ℕ) (w : ℕ) → counters_behind (all_with_rows image l owner fs) c w ≡ numbers_after w fs (c w)
  numbers_are [] c w = refl
  numbers_are (f ∷ fs) c w = numbers_are fs (counters_after (with_rows image l owner f) c) w ∙ ap (numbers_after w fs) (one_after f c w)

  pub untouched : (fs : List ForeignFragment) (c : ℕ → ℕ) (w : ℕ) → all_counts w fs ≡ 0 → all_clears w fs ≡ 0 → counters_behind (all_with_rows image l owner fs) c w ≡ c w
  untouched fs c w a b = numbers_are fs c w ∙ none_numbers w fs (c w) a b

  pub counted_once : (fs : List ForeignFragment) (c : ℕ → ℕ) (w : ℕ) → all_counts w fs ≡ 1 → all_clears w fs ≡ 0 → counters_behind (all_with_rows image l owner fs) c w ≡ c w + 1
  counted_once fs c w a b = numbers_are fs c w ∙ one_more w fs (c w) a b

  pub cleared_once : (fs : List ForeignFragment) (c : ℕ → ℕ) (w : ℕ) → all_counts w fs ≡ 0 → all_clears w fs ≡ 1 → counters_behind (all_with_rows image l owner fs) c w ≡ 0
  cleared_once fs c w a b = numbers_are fs c w ∙ set_back w fs (c w) a b
