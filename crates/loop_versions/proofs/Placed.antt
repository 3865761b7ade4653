-- Pieces that stand one behind the other: where each stands, and what has been tested of it.
use Rattle.std.proofs.Common.{◌≡◌, ℕ, ◌+◌, ◌*◌, ◌<◌, ◌≤◌, Bool, true, false, List, [], ◌∷◌, ◌++◌, length, Some, arith, refl, sym, ap, subst, ◌∙◌, append_assoc, length-append, inl, inr}
use Rattle.std.specs.Prelude.{◌==◌, ◌&&◌, ◌||◌, nat_le, nat_lt}
use Rattle.std.proofs.lemmas.Bool.{and_parts, or_cases, cond-true, cond-false, eqb-true, leb-true, ltb-true, le-leb, false_from_ne_true}
use Rattle.scale_base.specs.declared.instruction.Instr.{Instr}
use Rattle.scale_base.specs.Image.{Image, is_word_address}
use Rattle.loop_versions.specs.declared.pieces.Piece.{Piece}
use Rattle.loop_versions.specs.declared.pieces.Piece.TheVariants.{Copied, Branched, Jumped, Bridge, Guard, Entered, Returned}
use Rattle.loop_versions.specs.declared.pieces.Site.{Site}
use Rattle.loop_versions.specs.Pieces.{origin_of, piece_len, behind, piece_at, piece_code, pieces_code, extra_len, in_extra}
use Rattle.loop_versions.specs.Fitting.{is_right, are_right, is_free, ways, are_free}
use Rattle.loop_versions.proofs.Parts.{code_len}

pub len_some : (p : Piece) → 1 ≤ piece_len p
len_some (Copied at) = omega arith
len_some (Branched at to) = omega arith
len_some (Jumped at to) = omega arith
len_some (Bridge at to) = omega arith
len_some (Guard at larger smaller limit to) = omega arith
len_some (Entered at to end) = omega arith
len_some (Returned at to) = omega arith

len_few : (p : Piece) → piece_len p ≤ 9
len_few (Copied at) = omega arith
len_few (Branched at to) = omega arith
len_few (Jumped at to) = omega arith
len_few (Bridge at to) = omega arith
len_few (Guard at larger smaller limit to) = omega arith
len_few (Entered at to end) = omega arith
len_few (Returned at to) = omega arith

pub extra_few : (p : Piece) → extra_len p ≤ piece_len p
extra_few (Copied at) = omega arith
extra_few (Branched at to) = omega arith
extra_few (Jumped at to) = omega arith
extra_few (Bridge at to) = omega arith
extra_few (Guard at larger smaller limit to) = omega arith
extra_few (Entered at to end) = omega arith
extra_few (Returned at to) = omega arith

-- nothing of pieces lies in front of them
extra_low : (place : ℕ) (ps : List Piece) (a : ℕ) → in_extra place ps a ≡ true → place ≤ a
extra_low place [] a h = let never : ⊥ = cc in absurd never
extra_low place (p ∷ ps) a h = elim (or_cases (nat_le place a && nat_lt a (place + 4 * extra_len p)) (in_extra (behind place p) ps a) h) [
  | inl here ↦ leb-true place a (and_parts (nat_le place a) (nat_lt a (place + 4 * extra_len p)) here).0
  | inr later ↦ let low = extra_low (behind place p) ps a later in omega (arith, low)
]

or_false_right : (a b : Bool) → b ≡ false → (a || b) ≡ a
or_false_right true b h = refl
or_false_right false b h = h

or_false_left : (a b : Bool) → a ≡ false → (a || b) ≡ b
or_false_left true b h = let never : ⊥ = cc in absurd never
or_false_left false b h = refl

and_true : (a b : Bool) → a ≡ true → (a && b) ≡ b
and_true true b h = refl
and_true false b h = let never : ⊥ = cc in absurd never

and_last : (a c : Bool) → c ≡ false → (a && c) ≡ false
and_last true c h = h
and_last false c h = refl

module _ (image : Image) (pieces : List Piece) (sites : List Site) (base : ℕ) where
  abbrev code_at : ℕ → List Piece → List Instr
  code_at place ps = pieces_code image place ps

  abbrev AreRight : ℕ → List Piece → Type 0
  AreRight place ps = are_right image pieces base place ps ≡ true

  abbrev AreFree : ℕ → List Piece → Type 0
  AreFree place ps = are_free pieces sites base place ps ≡ true

  pub record IsPlaced (place : ℕ) (ps : List Piece) (v : ℕ) (p : Piece) : Type 0 where
    pub ahead : List Instr
    pub after : List Instr
    pub code : pieces_code image place ps ≡ ahead ++ (piece_code image v p ++ after)
    pub at : v ≡ place + 4 * length ahead
    pub word : is_word_address image (origin_of p) ≡ true
    pub right : is_right image pieces base v p ≡ true
    pub free : is_free (ways pieces sites base) 8 v ≡ true
    pub extra : (a : ℕ) → v ≤ a → a < behind v p → in_extra place ps a ≡ nat_lt a (v + 4 * extra_len p)

  -- ---- parts of the tests

  record IsFirst (place : ℕ) (p : Piece) (ps : List Piece) : Type 0 where
    word : is_word_address image (origin_of p) ≡ true
    right : is_right image pieces base place p ≡ true
    others : are_right image pieces base (behind place p) ps ≡ true

  first_of_right : (place : ℕ) (p : Piece) (ps : List Piece) → are_right image pieces base place (p ∷ ps) ≡ true → IsFirst place p ps
  first_of_right place p ps h =
      let a = and_parts (is_word_address image (origin_of p) && is_right image pieces base place p) (are_right image pieces base (behind place p) ps) h in
      let b = and_parts (is_word_address image (origin_of p)) (is_right image pieces base place p) a.0 in
      record { word = b.0; right = b.1; others = a.1 }

  first_free : (place : ℕ) (p : Piece) (ps : List Piece) → are_free pieces sites base place (p ∷ ps) ≡ true → (is_free (ways pieces sites base) 8 place ≡ true) × (are_free pieces sites base (behind place p) ps ≡ true)
  first_free place p ps h = and_parts (is_free (ways pieces sites base) 8 place) (are_free pieces sites base (behind place p) ps) h

  -- ---- lengths

  first_len : (place : ℕ) (p : Piece) (ps : List Piece) → AreRight place (p ∷ ps) → length (code_at place (p ∷ ps)) ≡ piece_len p + length (code_at (behind place p) ps)
  first_len place p ps h =
      let one = code_len image pieces base place p (first_of_right place p ps h).right in
      let both = length-append (piece_code image place p) (code_at (behind place p) ps) in
      omega (arith, one, both)

  pub code_some : (place : ℕ) (ps : List Piece) → AreRight place ps → 0 < length ps → 0 < length (code_at place ps)
  code_some place [] h some = absurd (omega (arith, some))
  code_some place (p ∷ ps) h some = let e = first_len place p ps h in let one = len_some p in omega (arith, e, one)

  pub code_few : (place : ℕ) (ps : List Piece) → AreRight place ps → length (code_at place ps) ≤ 9 * length ps
  code_few place [] h = omega arith
  code_few place (p ∷ ps) h =
      let e = first_len place p ps h in
      let one = len_few p in
      let rest = code_few (behind place p) ps (first_of_right place p ps h).others in
      omega (arith, e, one, rest)

  -- ---- a piece in its place

  place_first : (place : ℕ) (p : Piece) (ps : List Piece) → AreRight place (p ∷ ps) → AreFree place (p ∷ ps) → IsPlaced place (p ∷ ps) place p
  place_first place p ps right free =
      let f = first_of_right place p ps right in
      record {
        ahead = [];
        after = code_at (behind place p) ps;
        code = refl;
        at = omega arith;
        word = f.word;
        right = f.right;
        free = (first_free place p ps free).0;
        extra = λ a low high.
            let late : in_extra (behind place p) ps a ≡ false = false_from_ne_true (in_extra (behind place p) ps a) (λ on. let above = extra_low (behind place p) ps a on in omega (arith, above, high)) in
            or_false_right (nat_le place a && nat_lt a (place + 4 * extra_len p)) (in_extra (behind place p) ps a) late
            ∙ and_true (nat_le place a) (nat_lt a (place + 4 * extra_len p)) (le-leb place a low);
      }

  place_later : (place : ℕ) (q : Piece) (ps : List Piece) (v : ℕ) (p : Piece) → AreRight place (q ∷ ps) → IsPlaced (behind place q) ps v p → IsPlaced place (q ∷ ps) v p
  place_later place q ps v p right is =
      let one = code_len image pieces base place q (first_of_right place q ps right).right in
      let at = is.at in
      record {
        ahead = piece_code image place q ++ is.ahead;
        after = is.after;
        code = ap (λ (c : List Instr). piece_code image place q ++ c) is.code ∙ sym (append_assoc (piece_code image place q) is.ahead (piece_code image v p ++ is.after));
        at = let both = length-append (piece_code image place q) is.ahead in omega (arith, at, both, one);
        word = is.word;
        right = is.right;
        free = is.free;
        extra = λ a low high.
            let few = extra_few q in
            let past : nat_lt a (place + 4 * extra_len q) ≡ false = false_from_ne_true (nat_lt a (place + 4 * extra_len q)) (λ on. let less = ltb-true a (place + 4 * extra_len q) on in omega (arith, less, low, at, few)) in
            or_false_left (nat_le place a && nat_lt a (place + 4 * extra_len q)) (in_extra (behind place q) ps a) (and_last (nat_le place a) (nat_lt a (place + 4 * extra_len q)) past)
            ∙ is.extra a low high;
      }

  same_piece : (p q : Piece) → Some q ≡ Some p → q ≡ p
  same_piece p q e = cc

  pub placed : (place : ℕ) (ps : List Piece) (v : ℕ) (p : Piece) → AreRight place ps → AreFree place ps → piece_at place ps v ≡ Some p → IsPlaced place ps v p
  placed place [] v p right free found = let never : ⊥ = cc in absurd never
  placed place (q ∷ qs) v p right free found = by (v == place) refl
      (λ later. placed (behind place q) qs v p (first_of_right place q qs right).others (first_free place q qs free).1 later)
    where
      by : (b : Bool) → (v == place) ≡ b → (piece_at (behind place q) qs v ≡ Some p → IsPlaced (behind place q) qs v p) → IsPlaced place (q ∷ qs) v p
      by true e rest =
          let here : v ≡ place = eqb-true v place e in
          let same : q ≡ p = same_piece p q (sym (cond-true (v == place) (Some q) (piece_at (behind place q) qs v) e) ∙ found) in
          subst (λ u. IsPlaced place (q ∷ qs) u p) (sym here) (subst (λ r. IsPlaced place (q ∷ qs) place r) same (place_first place q qs right free))
      by false e rest =
          let later : piece_at (behind place q) qs v ≡ Some p = sym (cond-false (v == place) (Some q) (piece_at (behind place q) qs v) e) ∙ found in
          place_later place q qs v p right (rest later)

  -- it lies within the code
  pub within : (place : ℕ) (ps : List Piece) (v : ℕ) (p : Piece) → IsPlaced place ps v p → (place ≤ v) × (v + 4 * piece_len p ≤ place + 4 * length (code_at place ps))
  within place ps v p is =
      let at = is.at in
      let one = code_len image pieces base v p is.right in
      let len : length (code_at place ps) ≡ length is.ahead + (length (piece_code image v p) + length is.after) =
      ap (λ (c : List Instr). length c) is.code ∙ omega (arith, length-append is.ahead (piece_code image v p ++ is.after), length-append (piece_code image v p) is.after) in
      (omega (arith, at), omega (arith, at, one, len))

  -- so do the instructions of bridges and guards
  pub extra_within : (place : ℕ) (ps : List Piece) (a : ℕ) → AreRight place ps → in_extra place ps a ≡ true → (place ≤ a) × (a < place + 4 * length (code_at place ps))
  extra_within place [] a right h = let never : ⊥ = cc in absurd never
  extra_within place (p ∷ ps) a right h =
      let e = first_len place p ps right in
      let few = extra_few p in
      elim (or_cases (nat_le place a && nat_lt a (place + 4 * extra_len p)) (in_extra (behind place p) ps a) h) [
        | inl here ↦
            let x = and_parts (nat_le place a) (nat_lt a (place + 4 * extra_len p)) here in
            let low = leb-true place a x.0 in
            let high = ltb-true a (place + 4 * extra_len p) x.1 in
            (low, omega (arith, high, e, few))
        | inr later ↦
            let rest = extra_within (behind place p) ps a (first_of_right place p ps right).others later in
            (omega (arith, rest.0), omega (arith, rest.1, e))
      ]
