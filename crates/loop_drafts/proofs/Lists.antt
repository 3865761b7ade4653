-- Lists item by item.
use Rattle.std.proofs.Common.{◌≡◌, ℕ, zero, suc, ◌+◌, ◌<◌, List, [], ◌∷◌, ◌++◌, length, take, slice_get, Some, refl, ap, ◌∙◌, arith}

take_suc : {A : Type 0} (xs : List A) (k : ℕ) (x : A) → slice_get xs k ≡ Some x → take (suc k) xs ≡ take k xs ++ x ∷ []
take_suc [] k x at = let never : ⊥ = cc in absurd never
take_suc (y ∷ xs) zero x at = let e : y ≡ x = cc in ap (λ z. z ∷ []) e
take_suc (y ∷ xs) (suc k) x at = ap (λ zs. y ∷ zs) (take_suc xs k x at)

-- the first items, and one more
pub take_next : {A : Type 0} (xs : List A) (k : ℕ) (x : A) → slice_get xs k ≡ Some x → take (k + 1) xs ≡ take k xs ++ x ∷ []
take_next xs k x at = let e : k + 1 ≡ suc k = omega arith in ap (λ j. take j xs) e ∙ take_suc xs k x at

-- lists of one length are the same where they have the same items
pub same_list : {A : Type 0} (xs ys : List A) → length xs ≡ length ys → ((k : ℕ) → k < length xs → slice_get xs k ≡ slice_get ys k) → xs ≡ ys
same_list [] [] size at = refl
same_list [] (y ∷ ys) size at = absurd (omega (arith, size))
same_list (x ∷ xs) [] size at = absurd (omega (arith, size))
same_list (x ∷ xs) (y ∷ ys) size at =
    let first : Some x ≡ Some y = at 0 (omega arith) in
    let same : x ≡ y = cc in
    ap (λ z. z ∷ xs) same ∙ ap (λ zs. y ∷ zs) (same_list xs ys (omega (arith, size)) (λ k kl. at (suc k) (omega (arith, kl))))
