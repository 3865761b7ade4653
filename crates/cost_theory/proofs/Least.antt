-- Least values: nothing has less, and something has just as much.
use Rattle.std.proofs.Common.{◌≡◌, ℕ, ◌≤◌, Option, Some, None, refl, arith}
use Rattle.cost_theory.specs.Least.{IsLeastIfAny, IsUpTo}

pub least_up_to : {A : Type 0} (P : A → Type 0) (value : A → ℕ) (o : Option ℕ) → IsLeastIfAny P value o → (a : A) → P a → IsUpTo o (value a)
least_up_to P value None h a p = absurd (h a p)
least_up_to P value (Some m) h a p = (m, refl, h.least a p)

pub least_reached : {A : Type 0} (P : A → Type 0) (value : A → ℕ) (o : Option ℕ) (m : ℕ) → IsLeastIfAny P value o → IsUpTo o m → (a : A) × P a × (value a ≤ m)
least_reached P value None m h up = let q : None ≡ Some up.0 = up.1 in let bad : ⊥ = cc in absurd bad
least_reached P value (Some x) m h up = (
  h.reached.0,
  h.reached.1,
  (let e : value h.reached.0 ≡ x = h.reached.2 in let q : Some x ≡ Some up.0 = up.1 in let r : x ≡ up.0 = cc in let le : up.0 ≤ m = up.2 in omega arith),
)

pub up_to-le : (o : Option ℕ) (m m' : ℕ) → m ≤ m' → IsUpTo o m → IsUpTo o m'
up_to-le o m m' le up = (up.0, up.1, (let h : up.0 ≤ m = up.2 in omega arith))
