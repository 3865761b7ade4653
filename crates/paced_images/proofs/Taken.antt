-- The first items of a list, and one more.
use Rattle.std.proofs.Common.{◌≡◌, ℕ, zero, suc, ◌+◌, List, [], ◌∷◌, ◌++◌, map, take, slice_get, Some, ap, ◌∙◌, arith}

map_suc : {A B : Type 0} (f : A → B) (xs : List A) (k : ℕ) (x : A) → slice_get xs k ≡ Some x → map f (take (suc k) xs) ≡ map f (take k xs) ++ f x ∷ []
map_suc f [] k x at = let never : ⊥ = cc in absurd never
map_suc f (y ∷ xs) zero x at = let e : y ≡ x = cc in ap (λ z. f z ∷ []) e
map_suc f (y ∷ xs) (suc k) x at = ap (λ zs. f y ∷ zs) (map_suc f xs k x at)

pub map_next : {A B : Type 0} (f : A → B) (xs : List A) (k : ℕ) (x : A) → slice_get xs k ≡ Some x → map f (take (k + 1) xs) ≡ map f (take k xs) ++ f x ∷ []
map_next f xs k x at = let e : k + 1 ≡ suc k = omega arith in ap (λ j. map f (take j xs)) e ∙ map_suc f xs k x at

take_suc : {A : Type 0} (xs : List A) (k : ℕ) (x : A) → slice_get xs k ≡ Some x → take (suc k) xs ≡ take k xs ++ x ∷ []
take_suc [] k x at = let never : ⊥ = cc in absurd never
take_suc (y ∷ xs) zero x at = let e : y ≡ x = cc in ap (λ z. z ∷ []) e
take_suc (y ∷ xs) (suc k) x at = ap (λ zs. y ∷ zs) (take_suc xs k x at)

pub take_next : {A : Type 0} (xs : List A) (k : ℕ) (x : A) → slice_get xs k ≡ Some x → take (k + 1) xs ≡ take k xs ++ x ∷ []
take_next xs k x at = let e : k + 1 ≡ suc k = omega arith in ap (λ j. take j xs) e ∙ take_suc xs k x at
