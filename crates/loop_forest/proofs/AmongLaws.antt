-- Which numbers are among others, and searches in ascending ones.
use Rattle.std.proofs.Common.{◌≡◌, ℕ, zero, suc, ◌<◌, ◌≤◌, Bool, true, false, nat_eq, List, [], ◌∷◌, length, get_or, slice_get, Some, Result, Ok, Err, refl, sym, ap, ◌∙◌, arith, ⊎_elim, eqb-true, eq-eqb}
use Rattle.std.specs.Prelude.{is_ok}
use Rattle.std.specs.List.Sorted.{IsBinarySearchResult}
use Rattle.std.specs.Ordering.{nat_cmp}
use Rattle.std.proofs.lemmas.Bool.{cases_lt}
use Rattle.std.proofs.lemmas.List.Sorted.{searched}
use Rattle.std.proofs.lemmas.Option.{slice_get_within, slice_get-get_or, get_or_from_slice_get}
use Rattle.cost_theory.specs.Lists.{is_among, or_true}
use Rattle.loop_forest.specs.Stored.{IsRising}

-- ---- which numbers are among others

pub or_right : (a b : Bool) → b ≡ true → or_true a b ≡ true
or_right true b e = refl
or_right false b e = e

pub among_at : (xs : List ℕ) (i x : ℕ) → slice_get xs i ≡ Some x → is_among x xs ≡ true
among_at [] i x e = let bad : ⊥ = cc in absurd bad
among_at (y ∷ ys) zero x e = let same : y ≡ x = cc in ap (λ b. or_true b (is_among x ys)) (eq-eqb y x same)
among_at (y ∷ ys) (suc i) x e = or_right (nat_eq y x) (is_among x ys) (among_at ys i x e)

pub at_among : (xs : List ℕ) (x : ℕ) → is_among x xs ≡ true → (i : ℕ) × (slice_get xs i ≡ Some x)
at_among [] x e = let bad : ⊥ = cc in absurd bad
at_among (y ∷ ys) x e = go (nat_eq y x) refl (at_among ys x)
  where
    go : (b : Bool) → nat_eq y x ≡ b → (is_among x ys ≡ true → (i : ℕ) × (slice_get ys i ≡ Some x)) → (i : ℕ) × (slice_get (y ∷ ys) i ≡ Some x)
    go true h later = (zero, ap Some (eqb-true y x h))
    go false h later = let r = later (sym (ap (λ b. or_true b (is_among x ys)) h) ∙ e) in (suc r.0, r.1)

not_among : (xs : List ℕ) (x : ℕ) → ((i : ℕ) → slice_get xs i ≡ Some x → ⊥) → is_among x xs ≡ false
not_among xs x none = go (is_among x xs) refl
  where
    go : (b : Bool) → is_among x xs ≡ b → b ≡ false
    go true e = let at = at_among xs x e in absurd (none at.0 at.1)
    go false e = refl

-- ---- searches

rises_weakly : (xs : List ℕ) → IsRising xs → (i j : ℕ) → i ≤ j → j < length xs → get_or xs i 0 ≤ get_or xs j 0
rises_weakly xs rise i j le lt = ⊎_elim
    (λ (less : i < j). let low : i < length xs = omega arith in
    let a : get_or xs i 0 < get_or xs j 0 = rise i j (get_or xs i 0) (get_or xs j 0) less (slice_get-get_or xs i 0 low) (slice_get-get_or xs j 0 lt) in omega arith)
    (λ (ge : j ≤ i). let e : i ≡ j = omega arith in let same : get_or xs i 0 ≡ get_or xs j 0 = ap (λ k. get_or xs k 0) e in omega arith)
    (cases_lt i j)

pub searched_among : (xs : List ℕ) (x : ℕ) (r : Result ℕ ℕ) → IsBinarySearchResult (λ y. nat_cmp y x) xs r → IsRising xs → is_ok r ≡ is_among x xs
searched_among xs x (Ok i) h rise =
    let s = searched xs x (Ok i) h (rises_weakly xs rise) in
    sym (among_at xs i x (slice_get-get_or xs i 0 s.0 ∙ ap Some s.1))
searched_among xs x (Err i) h rise =
    let s = searched xs x (Err i) h (rises_weakly xs rise) in
    sym (not_among xs x (λ k at.
    let e : get_or xs k 0 ≡ x = get_or_from_slice_get xs k x 0 at in
    ⊎_elim (λ (low : k < i). let a : get_or xs k 0 < x = s.1 k low in let bad : ⊥ = omega arith in bad)
    (λ (high : i ≤ k). let a : x < get_or xs k 0 = s.2 k high (slice_get_within xs k x at) in let bad : ⊥ = omega arith in bad)
    (cases_lt k i)))
