-- One more thing that is drawn.
use Rattle.std.proofs.Common.{◌≡◌, ℕ, zero, suc, ◌+◌, ◌<◌, List, [], ◌∷◌, ◌++◌, length, slice_get, Some, None, ◌⊎◌, inl, inr, ⊎_elim, refl, sym, ap, ◌∙◌, subst, arith, length-append}
use Rattle.plan_graphs.specs.Drawn.{AreDrawn}

get_of_push : {A : Type 0} (xs : List A) (x : A) (k : ℕ) (y : A) → slice_get (xs ++ x ∷ []) k ≡ Some y → (slice_get xs k ≡ Some y) ⊎ ((k ≡ length xs) × (x ≡ y))
get_of_push [] x zero y e = inr (refl, (let r : x ≡ y = cc in r))
get_of_push [] x (suc k) y e = let bad : ⊥ = cc in absurd bad
get_of_push (z ∷ zs) x zero y e = inl e
get_of_push (z ∷ zs) x (suc k) y e = ⊎_elim
    (λ (old : slice_get zs k ≡ Some y). inl old)
    (λ (new : (k ≡ length zs) × (x ≡ y)). inr (ap suc new.0, new.1))
    (get_of_push zs x k y e)

pub drawn_none : {A : Type 0} (Is : ℕ → A → Type 0) → AreDrawn Is 0 []
drawn_none Is = record { size = refl; each = λ k x e. let bad : ⊥ = cc in absurd bad }

pub drawn_more : {A : Type 0} (Is : ℕ → A → Type 0) (n : ℕ) (xs ys : List A) (x : A) → ys ≡ xs ++ x ∷ [] → AreDrawn Is n xs → Is n x → AreDrawn Is (n + 1) ys
drawn_more {A = A} Is n xs ys x e are is = subst (AreDrawn Is (n + 1)) (sym e) (record {
  size = (let one : length (x ∷ []) ≡ 1 = refl in let l = length-append xs (x ∷ []) in let s = are.size in let r : length (xs ++ x ∷ []) ≡ n + 1 = omega (arith, l, s, one) in r);
  each = λ k y at. ⊎_elim
      (λ (old : slice_get xs k ≡ Some y). are.each k y old)
      (λ (new : (k ≡ length xs) × (x ≡ y)). subst (Is k) new.1 (subst (λ m. Is m x) (sym (new.0 ∙ are.size)) is))
      (get_of_push xs x k y at);
})
