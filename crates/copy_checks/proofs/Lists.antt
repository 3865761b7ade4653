-- Lists of open calls, pieces in front of which nothing lies, and lists with one more at the end.
use Rattle.std.proofs.Common.{◌≡◌, ℕ, zero, suc, ◌<◌, ◌+◌, ◌*◌, Bool, true, false, List, [], ◌∷◌, ◌++◌, length, Option, Some, None, ◌⊎◌, ⊎_elim, refl, sym, ap, subst, ◌∙◌, arith}
use Rattle.std.proofs.lemmas.Bool.{cond-false, leb-true}
use Rattle.std.specs.Prelude.{◌&&◌, ◌||◌, nat_le, nat_lt, slice_get}
use Rattle.std.specs.List.{cons_option}
use Rattle.loop_versions.specs.declared.pieces.Piece.{Piece}
use Rattle.loop_versions.specs.Pieces.{behind, extra_len, in_extra}
use Rattle.copy_bounds.specs.Meanings.{piece_round}
use Rattle.flow_graph.proofs.Laws.{less_same_more, some_is}

pub with_one : (o : Option ℕ) (xs own : List ℕ) → own ≡ cons_option o [] → xs ++ own ≡ xs ++ cons_option o []
with_one o xs own e = ap (λ (ys : List ℕ). xs ++ ys) e

append_none : (xs : List ℕ) → xs ++ [] ≡ xs
append_none [] = refl
append_none (x ∷ xs) = ap (λ (ys : List ℕ). x ∷ ys) (append_none xs)

pub with_none : (xs own : List ℕ) → own ≡ [] → xs ≡ xs ++ own
with_none xs own e = sym (ap (λ (ys : List ℕ). xs ++ ys) e ∙ append_none xs)

-- a place is not below an address that lies in front of it
low_off : (place v : ℕ) (b : Bool) → v < place → (nat_le place v && b) ≡ false
low_off place v b lt = by (nat_le place v) refl
  where
    by : (c : Bool) → nat_le place v ≡ c → (nat_le place v && b) ≡ false
    by true e = let low = leb-true place v e in absurd (omega (arith, lt, low))
    by false e = ap (λ (c : Bool). c && b) e

-- in front of pieces is none
pub round_low : (place : ℕ) (ps : List Piece) (v : ℕ) → v < place → piece_round place ps v ≡ None
round_low place [] v lt = refl
round_low place (p ∷ ps) v lt = cond-false (nat_le place v && nat_lt v (behind place p)) (Some p) (piece_round (behind place p) ps v) (low_off place v (nat_lt v (behind place p)) lt) ∙ round_low (behind place p) ps v (omega (arith, lt))

pub extra_low : (place : ℕ) (ps : List Piece) (v : ℕ) → v < place → in_extra place ps v ≡ false
extra_low place [] v lt = refl
extra_low place (p ∷ ps) v lt = ap (λ (b : Bool). b || in_extra (behind place p) ps v) (low_off place v (nat_lt v (place + 4 * extra_len p)) lt) ∙ extra_low (behind place p) ps v (omega (arith, lt))

-- what is in a list is there with one more at the end
pub get_before : {A : Type 0} (xs : List A) (y : A) (k : ℕ) (x : A) → slice_get xs k ≡ Some x → slice_get (xs ++ (y ∷ [])) k ≡ Some x
get_before [] y k x at = let bad : ⊥ = cc in absurd bad
get_before (z ∷ xs) y zero x at = at
get_before (z ∷ xs) y (suc k) x at = get_before xs y k x at

pub get_last : {A : Type 0} (xs : List A) (y : A) → slice_get (xs ++ (y ∷ [])) (length xs) ≡ Some y
get_last [] y = refl
get_last (z ∷ xs) y = get_last xs y

length_more : {A : Type 0} (xs : List A) (y : A) → length (xs ++ (y ∷ [])) ≡ length xs + 1
length_more [] y = refl
length_more (z ∷ xs) y = let e = length_more xs y in omega (arith, e)

-- what is beside each of the first n numbers, and with one more
pub beside_more : {A : Type 0} (Q : ℕ → A → Type 0) (nodes : List ℕ) (xs : List A) (y : A) (n v : ℕ) → slice_get nodes n ≡ Some v → Q v y →
    (length xs ≡ n) × ((k a : ℕ) → k < n → slice_get nodes k ≡ Some a → (x : A) × (slice_get xs k ≡ Some x) × Q a x) →
    (length (xs ++ (y ∷ [])) ≡ n + 1) × ((k a : ℕ) → k < n + 1 → slice_get nodes k ≡ Some a → (x : A) × (slice_get (xs ++ (y ∷ [])) k ≡ Some x) × Q a x)
beside_more {A} Q nodes xs y n v there so (size, each) = (length_more xs y ∙ ap (λ (l : ℕ). l + 1) size, more)
  where
    more : (k a : ℕ) → k < n + 1 → slice_get nodes k ≡ Some a → (x : A) × (slice_get (xs ++ (y ∷ [])) k ≡ Some x) × Q a x
    more k a lt at = ⊎_elim
        (λ (before : k < n). let found = each k a before at in (found.0, get_before xs y k found.0 found.1, found.2))
        (λ (rest : (k ≡ n) ⊎ (n < k)). ⊎_elim
        (λ (same : k ≡ n). (y, ap (slice_get (xs ++ (y ∷ []))) (same ∙ sym size) ∙ get_last xs y, subst (λ (u : ℕ). Q u y) (some_is v a (sym there ∙ (ap (slice_get nodes) (sym same) ∙ at))) so))
        (λ (after : n < k). absurd (omega (arith, lt, after)))
        rest)
        (less_same_more k n)
