-- The loops as lists, as the values of types see them.
use Rattle.std.specs.Prelude.{ℕ, zero, suc, Bool, true, false, List, [], ◌∷◌, length, slice_index, nat_eq}
use Rattle.cost_theory.specs.Graph.{Loops}

-- by number of the loop: its header, its bound, and the addresses of its body. That it has to turn is not told here.
pub record Tree : Type 0 where
  pub headers : List ℕ
  pub bounds : List ℕ
  pub bodies : List (List ℕ)

abbrev pub or_true : Bool → Bool → Bool
or_true true b = true
or_true false b = b

abbrev pub is_among : ℕ → List ℕ → Bool
is_among v [] = false
is_among v (u ∷ us) = or_true (nat_eq u v) (is_among v us)

abbrev pub body_of : List (List ℕ) → ℕ → List ℕ
body_of [] k = []
body_of (b ∷ bs) zero = b
body_of (b ∷ bs) (suc k) = body_of bs k

abbrev pub loops_of : Tree → Loops
loops_of tree = record {
  loops = length tree.headers;
  header = λ k. slice_index tree.headers k;
  bound = λ k. slice_index tree.bounds k;
  least_trips = λ k. 0;
  inside = λ k v. is_among v (body_of tree.bodies k);
}
