-- Lists of open calls: which begin with which, and where there are none.
use Rattle.std.proofs.Common.{◌≡◌, ℕ, Bool, true, false, List, [], ◌∷◌, ◌++◌, Option, Some, None, refl, sym, ap, ◌∙◌}
use Rattle.std.specs.Prelude.{◌==◌, ◌||◌}
use Rattle.std.specs.List.{list_any, cons_option}
use Rattle.std.proofs.lemmas.Bool.{and_parts, and_from, or_left, or_right, cond-true, cond-false, eqb-true, eq-eqb}
use Rattle.loop_versions.specs.declared.pieces.Piece.{Piece}
use Rattle.loop_versions.specs.declared.pieces.Piece.TheVariants.{Copied, Branched, Jumped, Bridge, Guard, Entered, Returned}
use Rattle.loop_versions.specs.Pieces.{behind, piece_at}
use Rattle.loop_versions.specs.Fitting.{call_round, calls_round, calls_by, calls_at, begins, is_entered}

pub begins_same : (xs : List ℕ) → begins xs xs ≡ true
begins_same [] = refl
begins_same (x ∷ xs) = and_from (x == x) (begins xs xs) (eq-eqb x x refl) (begins_same xs)

pub begins_on : (xs ys zs : List ℕ) → begins xs ys ≡ true → begins ys zs ≡ true → begins xs zs ≡ true
begins_on [] ys zs a b = refl
begins_on (x ∷ xs) [] zs a b = let never : ⊥ = cc in absurd never
begins_on (x ∷ xs) (y ∷ ys) [] a b = let never : ⊥ = cc in absurd never
begins_on (x ∷ xs) (y ∷ ys) (z ∷ zs) a b =
    let p = and_parts (x == y) (begins xs ys) a in
    let q = and_parts (y == z) (begins ys zs) b in
    and_from (x == z) (begins xs zs) (eq-eqb x z (eqb-true x y p.0 ∙ eqb-true y z q.0)) (begins_on xs ys zs p.1 q.1)

-- with one more in front of both
pub begins_more : (r : ℕ) (xs ys : List ℕ) → begins xs ys ≡ true → begins (r ∷ xs) (r ∷ ys) ≡ true
begins_more r xs ys h = and_from (r == r) (begins xs ys) (eq-eqb r r refl) h

-- the first one is the same, and the others begin with the others
pub begins_first : (r : ℕ) (xs : List ℕ) (s : ℕ) (ys : List ℕ) → begins (r ∷ xs) (s ∷ ys) ≡ true → (r ≡ s) × (begins xs ys ≡ true)
begins_first r xs s ys h = let p = and_parts (r == s) (begins xs ys) h in (eqb-true r s p.0, p.1)

-- ---- where nothing is entered, no call is open

own_none : (p : Piece) (v : ℕ) → is_entered p ≡ false → call_round p v ≡ []
own_none (Copied at) v e = refl
own_none (Branched at to) v e = refl
own_none (Jumped at to) v e = refl
own_none (Bridge at to) v e = refl
own_none (Guard at larger smaller limit to) v e = refl
own_none (Entered at to end) v e = let never : ⊥ = cc in absurd never
own_none (Returned at to) v e = refl

neither : (a b : Bool) → (a || b) ≡ false → (a ≡ false) × (b ≡ false)
neither true b h = let never : ⊥ = cc in absurd never
neither false b h = (refl, h)

round_none : (ps : List Piece) (v : ℕ) → list_any is_entered ps ≡ false → calls_round ps v ≡ []
round_none [] v e = refl
round_none (p ∷ ps) v e =
    let n = neither (is_entered p) (list_any is_entered ps) e in
    ap (λ (xs : List ℕ). xs ++ call_round p v) (round_none ps v n.1) ∙ own_none p v n.0

by_none : (o : Option Piece) (rs : List ℕ) → rs ≡ [] → calls_by o rs ≡ []
by_none None rs e = refl
by_none (Some p) rs e = e

pub none_open : (pieces : List Piece) (base v : ℕ) → list_any is_entered pieces ≡ false → calls_at pieces base v ≡ []
none_open pieces base v e = by_none (piece_at base pieces v) (calls_round pieces v) (round_none pieces v e)

-- so where one is open, one is entered
pub some_entered : (pieces : List Piece) (base v r : ℕ) (rs : List ℕ) → calls_at pieces base v ≡ r ∷ rs → list_any is_entered pieces ≡ true
some_entered pieces base v r rs opened = by (list_any is_entered pieces) refl
  where
    by : (b : Bool) → list_any is_entered pieces ≡ b → b ≡ true
    by true e = refl
    by false e = let bad : [] ≡ r ∷ rs = sym (none_open pieces base v e) ∙ opened in let never : ⊥ = cc in absurd never

-- no call is open at an address that isn't that of a piece
pub off_calls : (pieces : List Piece) (base v : ℕ) → piece_at base pieces v ≡ None → calls_at pieces base v ≡ []
off_calls pieces base v e = ap (λ o. calls_by o (calls_round pieces v)) e

-- ---- a piece is among the pieces

pub found_any : (test : Piece → Bool) (place : ℕ) (ps : List Piece) (v : ℕ) (p : Piece) → piece_at place ps v ≡ Some p → test p ≡ true → list_any test ps ≡ true
found_any test place [] v p found h = let never : ⊥ = cc in absurd never
found_any test place (q ∷ qs) v p found h = by (v == place) refl (λ later. found_any test (behind place q) qs v p later h)
  where
    by : (b : Bool) → (v == place) ≡ b → (piece_at (behind place q) qs v ≡ Some p → list_any test qs ≡ true) → (test q || list_any test qs) ≡ true
    by true e rest =
        let is : Some q ≡ Some p = sym (cond-true (v == place) (Some q) (piece_at (behind place q) qs v) e) ∙ found in
        let same : q ≡ p = cc in
        or_left (test q) (list_any test qs) (ap test same ∙ h)
    by false e rest = or_right (test q) (list_any test qs) (rest (sym (cond-false (v == place) (Some q) (piece_at (behind place q) qs v) e) ∙ found))

-- ---- lists made piece by piece

append_none : (xs : List ℕ) → xs ++ [] ≡ xs
append_none [] = refl
append_none (x ∷ xs) = ap (λ (ys : List ℕ). x ∷ ys) (append_none xs)

-- what is made of the pieces behind one, with what that one gives
pub with_one : (o : Option ℕ) (xs own : List ℕ) → own ≡ cons_option o [] → xs ++ own ≡ xs ++ cons_option o []
with_one o xs own e = ap (λ (ys : List ℕ). xs ++ ys) e

pub with_none : (xs own : List ℕ) → own ≡ [] → xs ≡ xs ++ own
with_none xs own e = sym (ap (λ (ys : List ℕ). xs ++ ys) e ∙ append_none xs)
