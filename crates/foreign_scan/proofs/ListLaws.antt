-- Elements of lists by their numbers.
use Rattle.std.proofs.Common.{◌≡◌, ℕ, zero, suc, ◌+◌, ◌<◌, ◌≤◌, List, [], ◌∷◌, ◌++◌, length, take, map, Some, refl, sym, ap, ◌∙◌, arith}
use Rattle.std.specs.Prelude.{slice_get, slice_set}
use Rattle.std.proofs.lemmas.List.{take_more, take_all, map-append}
use Rattle.std.proofs.lemmas.Option.{slice_get_within, get_or_from_slice_get}

pub take_one : {A : Type 0} (xs : List A) (k : ℕ) (x : A) → slice_get xs k ≡ Some x → take (k + 1) xs ≡ take k xs ++ x ∷ []
take_one xs k x e = take_more xs k x (slice_get_within xs k x e) ∙ ap (λ y. take k xs ++ y ∷ []) (get_or_from_slice_get xs k x x e)

pub get_there : {A : Type 0} (xs : List A) (k : ℕ) → k < length xs → (x : A) × (slice_get xs k ≡ Some x)
get_there [] k lt = absurd (omega (arith, lt))
get_there (x ∷ xs) zero lt = (x, refl)
get_there (x ∷ xs) (suc k) lt = get_there xs k (omega (arith, lt))

-- one element more of a mapped list
pub map_more : {A B : Type 0} (f : A → B) (xs : List A) (k : ℕ) (x : A) (y : B) (old new : List B) → slice_get xs k ≡ Some x → old ≡ map f (take k xs) → y ≡ f x → new ≡ old ++ y ∷ [] → new ≡ map f (take (k + 1) xs)
map_more f xs k x y old new there before is added =
    added ∙ (ap (λ ys. ys ++ y ∷ []) before ∙ (ap (λ z. map f (take k xs) ++ z ∷ []) is
    ∙ (sym (map-append f (take k xs) (x ∷ [])) ∙ ap (map f) (sym (take_one xs k x there)))))

pub map_whole : {A B : Type 0} (f : A → B) (xs : List A) (k : ℕ) (ys : List B) → length xs ≤ k → ys ≡ map f (take k xs) → ys ≡ map f xs
map_whole f xs k ys done are = are ∙ ap (map f) (take_all k xs done)

pub set_same : {A : Type 0} (xs : List A) (k : ℕ) (v : A) → k < length xs → slice_get (slice_set xs k v) k ≡ Some v
set_same [] k v lt = absurd (omega (arith, lt))
set_same (x ∷ xs) zero v lt = refl
set_same (x ∷ xs) (suc k) v lt = set_same xs k v (omega (arith, lt))

pub set_other : {A : Type 0} (xs : List A) (k j : ℕ) (v : A) → (j ≡ k → ⊥) → slice_get (slice_set xs k v) j ≡ slice_get xs j
set_other [] k j v differ = refl
set_other (x ∷ xs) zero zero v differ = absurd (differ refl)
set_other (x ∷ xs) zero (suc j) v differ = refl
set_other (x ∷ xs) (suc k) zero v differ = refl
set_other (x ∷ xs) (suc k) (suc j) v differ = set_other xs k j v (λ e. differ (ap suc e))
