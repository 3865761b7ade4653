use Rattle.std.proofs.Common.{◌≡◌, ℕ, zero, suc, ◌<◌, Bool, true, false, ◌&&◌, nat_lt, List, [], ◌∷◌, length, refl, subst, Option, Some, None}
use Rattle.std.specs.Prelude.{slice_get}
use Rattle.std.proofs.lemmas.Bool.{ltb-true}
use Rattle.graph_algorithms.specs.Edges.{AreEdges}
use Rattle.graph_tests.proofs.bodies.backward_search.Goals as goal

abbrev are_low : List ℕ → ℕ → Bool
are_low [] n = true
are_low (x ∷ xs) n = nat_lt x n && are_low xs n

abbrev lead_low : List (Option ℕ) → ℕ → Bool
lead_low [] n = true
lead_low (None ∷ xs) n = lead_low xs n
lead_low (Some x ∷ xs) n = nat_lt x n && lead_low xs n

both : (a b : Bool) → (a && b) ≡ true → (a ≡ true) × (b ≡ true)
both true b h = (refl, h)
both false b h = let bad : ⊥ = cc in absurd bad

low : (xs : List ℕ) (n e u : ℕ) → slice_get xs e ≡ Some u → are_low xs n ≡ true → u < n
low [] n e u h t = let bad : ⊥ = cc in absurd bad
low (x ∷ xs) n zero u h t = let same : x ≡ u = cc in subst (λ y. y < n) same (ltb-true x n (both (nat_lt x n) (are_low xs n) t).0)
low (x ∷ xs) n (suc e) u h t = low xs n e u h (both (nat_lt x n) (are_low xs n) t).1

leads : (xs : List (Option ℕ)) (n e u : ℕ) → slice_get xs e ≡ Some (Some u) → lead_low xs n ≡ true → u < n
leads [] n e u h t = let bad : ⊥ = cc in absurd bad
leads (None ∷ xs) n zero u h t = let bad : ⊥ = cc in absurd bad
leads (None ∷ xs) n (suc e) u h t = leads xs n e u h t
leads (Some x ∷ xs) n zero u h t = let same : x ≡ u = cc in subst (λ y. y < n) same (ltb-true x n (both (nat_lt x n) (lead_low xs n) t).0)
leads (Some x ∷ xs) n (suc e) u h t = leads xs n e u h (both (nat_lt x n) (lead_low xs n) t).1

edges_low : (sources : List ℕ) (targets : List (Option ℕ)) (count : ℕ) → length sources ≡ length targets → are_low sources count ≡ true → lead_low targets count ≡ true → AreEdges sources targets count
edges_low sources targets count paired from to = record { paired = paired; from = λ e u h. low sources count e u h from; to = λ e u h. leads targets count e u h to }

pub new-requires : goal.new-requires
new-requires g = edges_low _ _ _ refl refl refl
