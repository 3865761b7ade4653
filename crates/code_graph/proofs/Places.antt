-- Elements of lists, and places in strictly ascending numbers.
use Rattle.std.proofs.Common.{◌≡◌, ℕ, zero, suc, ◌+◌, ◌%◌, ◌<◌, ◌≤◌, List, [], ◌∷◌, length, get_or, map, Some, refl, ap, subst, arith, ◌⊎◌, inl, inr, ⊎_elim}
use Rattle.std.specs.Prelude.{All, slice_get}
use Rattle.std.specs.List.{range_with_len}
use Rattle.std.proofs.lemmas.List.Elements.{All-head, All-tail}
use Rattle.std.proofs.lemmas.Option.{slice_get_within, slice_get-get_or, get_or_from_slice_get}
use Rattle.std.proofs.Math.Nat.{eq-or-lt_of_le}
use Rattle.cost_theory.proofs.Laws.{Within}
use Rattle.code_text.specs.Walk.{RiseStrictly}

-- what holds of each element
pub all_within : {X : Type 0} (P : X → Type 0) (xs : List X) (x : X) → All P xs → Within x xs → P x
all_within P [] x all at = absurd at
all_within P (y ∷ ys) x all at = ⊎_elim (λ e. subst P e (All-head P y ys all)) (λ w. all_within P ys x (All-tail P y ys all) w) at

pub map_within : {X Y : Type 0} (f : X → Y) (xs : List X) (x : X) → Within x xs → Within (f x) (map f xs)
map_within f [] x at = absurd at
map_within f (y ∷ ys) x at = ⊎_elim (λ e. inl (ap f e)) (λ w. inr (map_within f ys x w)) at

pub within_map : {X Y : Type 0} (f : X → Y) (xs : List X) (y : Y) → Within y (map f xs) → (x : X) × Within x xs × (f x ≡ y)
within_map f [] y at = absurd at
within_map f (x ∷ xs) y at = ⊎_elim
    (λ e. (x, inl refl, e))
    (λ w. let r : (z : _) × Within z xs × (f z ≡ y) = within_map f xs y w in (r.0, inr r.1, r.2)) at

pub range_within : (m n i : ℕ) → m ≤ i → i < m + n → Within i (range_with_len m n)
range_within m zero i low high = absurd (omega (arith, low, high))
range_within m (suc n) i low high = ⊎_elim (λ (e : m ≡ i). inl e) (λ (less : m < i). inr (range_within (m + 1) n i (omega (arith, less)) (omega (arith, high)))) (eq-or-lt_of_le low)

pub within_range : (m n i : ℕ) → Within i (range_with_len m n) → (m ≤ i) × (i < m + n)
within_range m zero i at = absurd at
within_range m (suc n) i at = ⊎_elim
    (λ (e : m ≡ i). (omega (arith, e), omega (arith, e)))
    (λ w. let r = within_range (m + 1) n i w in (omega (arith, r.0), omega (arith, r.1))) at

pub order : (i j : ℕ) → (i < j) ⊎ ((i ≡ j) ⊎ (j < i))
order zero zero = inr (inl refl)
order zero (suc j) = inl (omega arith)
order (suc i) zero = inr (inr (omega arith))
order (suc i) (suc j) = ⊎_elim (λ a. inl (omega (arith, a))) (λ r. ⊎_elim (λ e. inr (inl (ap suc e))) (λ b. inr (inr (omega (arith, b)))) r) (order i j)

module _ (xs : List ℕ) (rise : RiseStrictly xs) where
  -- the elements at two places differ
  pub one_place : (i j x : ℕ) → slice_get xs i ≡ Some x → slice_get xs j ≡ Some x → i ≡ j
  one_place i j x at_i at_j =
      let a = get_or_from_slice_get xs i x 0 at_i in
      let b = get_or_from_slice_get xs j x 0 at_j in
      let n = slice_get_within xs i x at_i in
      let m = slice_get_within xs j x at_j in
      go (order i j) a b n m
    where
      go : (i < j) ⊎ ((i ≡ j) ⊎ (j < i)) → get_or xs i 0 ≡ x → get_or xs j 0 ≡ x → i < length xs → j < length xs → i ≡ j
      go (inl low) a b n m = let r = rise i j low m in absurd (omega (arith, r, a, b))
      go (inr (inl e)) a b n m = e
      go (inr (inr high)) a b n m = let r = rise j i high n in absurd (omega (arith, r, a, b))

  -- among multiples of 4, four more stands at the next place
  pub next_place : ((k v : ℕ) → slice_get xs k ≡ Some v → v % 4 ≡ 0) → (i j x : ℕ) → slice_get xs i ≡ Some x → slice_get xs j ≡ Some (x + 4) → j ≡ i + 1
  next_place fours i j x at_i at_j =
      let a = get_or_from_slice_get xs i x 0 at_i in
      let b = get_or_from_slice_get xs j (x + 4) 0 at_j in
      let n = slice_get_within xs i x at_i in
      let m = slice_get_within xs j (x + 4) at_j in
      ⊎_elim (λ (low : j < i + 1). absurd (back (order i j) a b n m low)) (λ r. ⊎_elim (λ (e : j ≡ i + 1). e) (λ (high : i + 1 < j). absurd (over a b m high)) r) (order j (i + 1))
    where
      back : (i < j) ⊎ ((i ≡ j) ⊎ (j < i)) → get_or xs i 0 ≡ x → get_or xs j 0 ≡ x + 4 → i < length xs → j < length xs → j < i + 1 → ⊥
      back (inl low) a b n m less = omega (arith, low, less)
      back (inr (inl e)) a b n m less = let same : get_or xs i 0 ≡ get_or xs j 0 = ap (λ k. get_or xs k 0) e in omega (arith, same, a, b)
      back (inr (inr high)) a b n m less = let r = rise j i high n in omega (arith, r, a, b)

      over : get_or xs i 0 ≡ x → get_or xs j 0 ≡ x + 4 → j < length xs → i + 1 < j → ⊥
      over a b m high =
          let low = rise i (i + 1) (omega arith) (omega (arith, m, high)) in
          let up = rise (i + 1) j high m in
          let at = slice_get-get_or xs (i + 1) 0 (omega (arith, m, high)) in
          let here = fours i x at_i in
          let there = fours (i + 1) (get_or xs (i + 1) 0) at in
          omega (arith, low, up, here, there, a, b)

-- a place is at most the number that stands there
pub place_below : (xs : List ℕ) → RiseStrictly xs → (k : ℕ) → k < length xs → k ≤ get_or xs k 0
place_below xs rise zero lt = omega arith
place_below xs rise (suc k) lt =
    let before = place_below xs rise k (omega (arith, lt)) in
    let more = rise k (suc k) (omega arith) lt in
    omega (arith, before, more)

-- there are at most as many of them as lie below a bound
pub few_below : (xs : List ℕ) → RiseStrictly xs → (b : ℕ) → ((k v : ℕ) → slice_get xs k ≡ Some v → v < b) → length xs ≤ b
few_below xs rise b low = go (length xs) refl
  where
    go : (n : ℕ) → length xs ≡ n → length xs ≤ b
    go zero e = omega (arith, e)
    go (suc n) e =
        let last = place_below xs rise n (omega (arith, e)) in
        let bound = low n (get_or xs n 0) (slice_get-get_or xs n 0 (omega (arith, e))) in
        omega (arith, last, bound, e)
