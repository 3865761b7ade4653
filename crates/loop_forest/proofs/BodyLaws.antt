-- Bodies by the number of the loop.
use Rattle.std.proofs.Common.{◌≡◌, ℕ, zero, suc, List, [], ◌∷◌, slice_get, Some}
use Rattle.cost_theory.specs.Lists.{body_of}

-- the body that a list has at a place
pub body_at : (bodies : List (List ℕ)) (k : ℕ) (body : List ℕ) → slice_get bodies k ≡ Some body → body_of bodies k ≡ body
body_at [] zero body e = let bad : ⊥ = cc in absurd bad
body_at [] (suc k) body e = let bad : ⊥ = cc in absurd bad
body_at (b ∷ bs) zero body e = let r : b ≡ body = cc in r
body_at (b ∷ bs) (suc k) body e = body_at bs k body e
