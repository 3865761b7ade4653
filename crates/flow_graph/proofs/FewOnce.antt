-- Numbers that come once below a bound.
use Rattle.std.proofs.Common.{◌≡◌, ℕ, suc, ◌<◌, ◌≤◌, Bool, true, false, List, [], ◌∷◌, length, nat_eq, Some, inl, inr, refl, arith, ⊎_elim, eqb-true}
use Rattle.std.specs.Prelude.{slice_get}
use Rattle.std.specs.List.{list_any, AllByRecursion, IsDistinct}
use Rattle.std.proofs.lemmas.Bool.{or_cases}
use Rattle.std.proofs.lemmas.Map.Steps.{length-le_from_distinct_below}
use Rattle.cost_theory.proofs.Laws.{Within, within_get}
use Rattle.flow_graph.proofs.Beside.{Once, once_tail, once_head}

-- one that passes a test
pub any_within : {X : Type 0} (p : X → Bool) (xs : List X) → list_any p xs ≡ true → (x : X) × Within x xs × (p x ≡ true)
any_within p [] h = let bad : ⊥ = cc in absurd bad
any_within p (y ∷ ys) h = ⊎_elim
    (λ here. (y, inl refl, here))
    (λ there. let r : (x : _) × Within x ys × (p x ≡ true) = any_within p ys there in (r.0, inr r.1, r.2)) (or_cases (p y) (list_any p ys) h)

distinct : (xs : List ℕ) → Once xs → IsDistinct nat_eq xs
unfolding IsDistinct
distinct [] once = tt
distinct (x ∷ xs) once = (others xs (λ k a at. once_head x xs once k a at), distinct xs (once_tail x xs once))
  where
    others : (ys : List ℕ) → ((k a : ℕ) → slice_get ys k ≡ Some a → nat_eq x a ≡ false) → AllByRecursion (λ y. nat_eq x y ≡ false) ys
    others [] h = tt
    others (y ∷ ys) h = (h 0 y refl, others ys (λ k a at. h (suc k) a at))

pub few_once : (xs : List ℕ) (n : ℕ) → Once xs → ((k a : ℕ) → slice_get xs k ≡ Some a → a < n) → length xs ≤ n
few_once xs n once low = length-le_from_distinct_below xs n (distinct xs once) (λ q h.
    let w = any_within (nat_eq q) xs h in
    let at = within_get xs w.0 w.1 in
    let same : q ≡ w.0 = eqb-true q w.0 w.2 in
    let lt = low at.0 w.0 at.1 in
    omega arith)
