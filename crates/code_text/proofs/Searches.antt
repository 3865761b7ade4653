-- Searches in numbers that ascend.
use Rattle.std.proofs.Common.{◌≡◌, ◌↔◌, ℕ, zero, suc, ◌<◌, ◌≤◌, Bool, false, List, [], ◌∷◌, length, get_or, Option, Some, Result, Ok, Err, refl, sym, ap, ◌∙◌, arith, ◌⊎◌, ⊎_elim, inl, inr}
use Rattle.std.specs.Prelude.{◌==◌, ◌||◌, is_ok, slice_get}
use Rattle.std.specs.Result.{result_ok}
use Rattle.std.specs.List.{list_any}
use Rattle.std.specs.List.Sorted.{IsBinarySearchResult}
use Rattle.std.specs.Ordering.{nat_cmp}
use Rattle.std.proofs.lemmas.Bool.{eq-eqb, ne_eqb}
use Rattle.std.proofs.lemmas.List.Sorted.{searched}
use Rattle.std.proofs.lemmas.List.Folds.{list_any_at}
use Rattle.std.proofs.lemmas.Option.{get_or_from_slice_get, slice_get-get_or}
use Rattle.std.proofs.Math.Nat.{eq-or-lt_of_le}
use Rattle.code_text.specs.Walk.{Rise, RiseStrictly}

-- no element passes
any_fails : (p : ℕ → Bool) (xs : List ℕ) → ((k : ℕ) → k < length xs → p (get_or xs k 0) ≡ false) → list_any p xs ≡ false
any_fails p [] h = refl
any_fails p (x ∷ xs) h = ap (λ b. b || list_any p xs) (h 0 (omega arith)) ∙ any_fails p xs (λ k lt. h (suc k) (omega (arith, lt)))

split : (k i : ℕ) → (k < i) ⊎ (i ≤ k)
split zero zero = inr (omega arith)
split zero (suc i) = inl (omega arith)
split (suc k) zero = inr (omega arith)
split (suc k) (suc i) = ⊎_elim (λ a. inl (omega (arith, a))) (λ b. inr (omega (arith, b))) (split k i)

-- the answer of a search says whether the number is one of them
pub among : (xs : List ℕ) (x : ℕ) (r : Result ℕ ℕ) → IsBinarySearchResult (λ y. nat_cmp y x) xs r → Rise xs → is_ok r ≡ list_any (λ u. u == x) xs
among xs x (Ok i) h rise =
    let s = searched xs x (Ok i) h rise in
    sym (list_any_at (λ u. u == x) xs i 0 s.0 (eq-eqb (get_or xs i 0) x s.1))
among xs x (Err i) h rise =
    let s = searched xs x (Err i) h rise in
    sym (any_fails (λ u. u == x) xs (λ k lt. ne_eqb (get_or xs k 0) x (λ e. ⊎_elim (λ low. let a = s.1 k low in omega (arith, a, e)) (λ high. let a = s.2 k high lt in omega (arith, a, e)) (split k i))))

within : (xs : List ℕ) (i x : ℕ) → slice_get xs i ≡ Some x → i < length xs
within [] i x h = absurd cc
within (y ∷ xs) zero x h = omega arith
within (y ∷ xs) (suc i) x h = let t = within xs i x h in omega (arith, t)

pub weakly : (xs : List ℕ) → RiseStrictly xs → Rise xs
weakly xs rise i j le lt = ⊎_elim (λ (e : i ≡ j). let same : get_or xs i 0 ≡ get_or xs j 0 = ap (λ k. get_or xs k 0) e in omega (arith, same)) (λ (less : i < j). let a = rise i j less lt in omega (arith, a)) (eq-or-lt_of_le le)

-- in strictly ascending numbers the elements at two places differ
same_place : (xs : List ℕ) → RiseStrictly xs → (i j : ℕ) → i < length xs → j < length xs → get_or xs i 0 ≡ get_or xs j 0 → i ≡ j
same_place xs rise i j lt_i lt_j e =
    ⊎_elim (λ (low : i < j). let a = rise i j low lt_j in omega (arith, a, e))
    (λ (high : j ≤ i). ⊎_elim (λ (same : j ≡ i). sym same) (λ (less : j < i). let a = rise j i less lt_i in omega (arith, a, e)) (eq-or-lt_of_le high)) (split i j)

-- the answer is the place of the number
pub found : (xs : List ℕ) (x : ℕ) (r : Result ℕ ℕ) → IsBinarySearchResult (λ y. nat_cmp y x) xs r → RiseStrictly xs → (k : ℕ) → (result_ok r ≡ Some k) ↔ (slice_get xs k ≡ Some x)
found xs x (Ok i) h rise k =
    let s = searched xs x (Ok i) h (weakly xs rise) in (
      λ e. let same : i ≡ k = cc in rw (sym same) (slice_get-get_or xs i 0 s.0 ∙ ap (λ a. Some a) s.1),
      λ e. ap (λ a. Some a) (same_place xs rise i k s.0 (within xs k x e) (s.1 ∙ sym (get_or_from_slice_get xs k x 0 e))),
    )
found xs x (Err i) h rise k =
    let s = searched xs x (Err i) h (weakly xs rise) in (
      λ e. absurd cc,
      λ e. let at = get_or_from_slice_get xs k x 0 e in
          ⊎_elim (λ low. let a = s.1 k low in absurd (omega (arith, a, at))) (λ high. let a = s.2 k high (within xs k x e) in absurd (omega (arith, a, at))) (split k i),
    )

pub found_in : (xs ys : List ℕ) (x : ℕ) (r : Result ℕ ℕ) (o : Option ℕ) → ys ≡ xs → o ≡ result_ok r → IsBinarySearchResult (λ y. nat_cmp y x) ys r → RiseStrictly ys → (k : ℕ) → (o ≡ Some k) ↔ (slice_get xs k ≡ Some x)
found_in xs ys x r o e same h rise k =
    let f = found ys x r h rise k in
    (λ a. ap (λ zs. slice_get zs k) (sym e) ∙ f.0 (sym same ∙ a), λ b. same ∙ f.1 (ap (λ zs. slice_get zs k) e ∙ b))
