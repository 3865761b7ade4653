-- What the addresses of a versioned image stand for is what the steps of its runs do.
use Rattle.std.proofs.Common.{◌≡◌, ℕ, ◌+◌, ◌*◌, ◌<◌, ◌≤◌, Bool, true, false, not, List, [], ◌∷◌, ◌++◌, length, refl, sym, ap, ◌∙◌, subst, arith, Option, Some, None}
use Rattle.std.specs.Prelude.{◌==◌, ◌&&◌, nat_le, nat_lt, is_some}
use Rattle.std.proofs.lemmas.Bool.{cond-true, cond-false, eq-eqb, and_parts, and_from, eqb-true, ne_eqb, le-leb, lt-ltb, leb-true, ltb-true, both_ways, not-true, false_from_ne_true}
use Rattle.scale_base.specs.declared.stepping.Move.TheVariants.{Local, Call, Return}
use Rattle.scale_base.specs.declared.stepping.Stepped.{Stepped}
use Rattle.scale_base.specs.Arith.{plus}
use Rattle.scale_base.specs.Image.{Image}
use Rattle.graph_runs.specs.ReturnAddresses.{returned, returns_by}
use Rattle.graph_runs.specs.KeptSteps.{call_of, source_of}
use Rattle.loop_versions.specs.declared.pieces.Piece.{Piece}
use Rattle.loop_versions.specs.declared.pieces.Piece.TheVariants.{Copied, Branched, Jumped, Bridge, Guard, Entered, Returned}
use Rattle.loop_versions.specs.declared.pieces.Site.{Site}
use Rattle.loop_versions.specs.Pieces.{origin_of, behind, piece_at, pieces_code}
use Rattle.loop_versions.specs.Fitting.{origin, origin_by, calls_by, calls_round}
use Rattle.loop_versions.specs.Follows.{in_block}
use Rattle.loop_versions.specs.Made.{IsVersioned}
use Rattle.loop_versions.proofs.Laws.{fit_parts, len_some, placed, within}
use Rattle.version_laws.proofs.Laws.{is_local, as_it_was, in_copy, at_call, at_return, none_paired, passed_paired, both_paired}
use Rattle.version_laws.proofs.Laws as versions
use Rattle.copy_bounds.specs.Copies.{Meaning}
use Rattle.copy_bounds.specs.Meanings.{piece_round, source_by, without_first, opened_by, text_at, is_extra, open_at, meaning}
use Rattle.copy_bounds.proofs.Pairs.{IsMeaning, IsMadeAt, IsPair, ArePaired}
use Rattle.copy_bounds.proofs.Pairs.IsPair.{same, apart}
use Rattle.copy_bounds.proofs.Pairs.ArePaired.{none, passed, both}

-- ---- the piece that an address lies in

at_low : (place : ℕ) (ps : List Piece) (q : ℕ) (p : Piece) → piece_at place ps q ≡ Some p → place ≤ q
at_low place [] q p e = let never : ⊥ = cc in absurd never
at_low place (r ∷ rs) q p e = by (q == place) refl (λ later. at_low (behind place r) rs q p later)
  where
    by : (b : Bool) → (q == place) ≡ b → (piece_at (behind place r) rs q ≡ Some p → behind place r ≤ q) → place ≤ q
    by true is later = let same = eqb-true q place is in omega (arith, same)
    by false is later = let rest = later (sym (cond-false (q == place) (Some r) (piece_at (behind place r) rs q) is) ∙ e) in omega (arith, rest)

-- from where a piece begins, to its end
pub round_of : (place : ℕ) (ps : List Piece) (q v : ℕ) (p : Piece) → piece_at place ps q ≡ Some p → q ≤ v → v < behind q p → piece_round place ps v ≡ Some p
round_of place [] q v p e low high = let never : ⊥ = cc in absurd never
round_of place (r ∷ rs) q v p e low high = by (q == place) refl (λ later. round_of (behind place r) rs q v p later low high)
  where
    by : (b : Bool) → (q == place) ≡ b → (piece_at (behind place r) rs q ≡ Some p → piece_round (behind place r) rs v ≡ Some p) → piece_round place (r ∷ rs) v ≡ Some p
    by true is later =
        let at : q ≡ place = eqb-true q place is in
        let found : Some r ≡ Some p = sym (cond-true (q == place) (Some r) (piece_at (behind place r) rs q) is) ∙ e in
        let this : r ≡ p = cc in
        let less : v < behind place r = subst (λ (o : Piece). v < behind place o) (sym this) (omega (arith, high, at)) in
        cond-true (nat_le place v && nat_lt v (behind place r)) (Some r) (piece_round (behind place r) rs v) (and_from (nat_le place v) (nat_lt v (behind place r)) (le-leb place v (omega (arith, low, at))) (lt-ltb v (behind place r) less)) ∙ found
    by false is later =
        let rest : piece_at (behind place r) rs q ≡ Some p = sym (cond-false (q == place) (Some r) (piece_at (behind place r) rs q) is) ∙ e in
        let above = at_low (behind place r) rs q p rest in
        let past : (nat_le place v && nat_lt v (behind place r)) ≡ false =
        false_from_ne_true (nat_le place v && nat_lt v (behind place r)) (λ on. let less = ltb-true v (behind place r) (and_parts (nat_le place v) (nat_lt v (behind place r)) on).1 in omega (arith, less, above, low)) in
        cond-false (nat_le place v && nat_lt v (behind place r)) (Some r) (piece_round (behind place r) rs v) past ∙ later rest

pub record Begins (place : ℕ) (ps : List Piece) (v : ℕ) (p : Piece) : Type 0 where
  pub from : ℕ
  pub found : piece_at place ps from ≡ Some p
  pub low : from ≤ v
  pub high : v < behind from p

-- a piece that an address lies in begins somewhere
pub begins_at : (place : ℕ) (ps : List Piece) (v : ℕ) (p : Piece) → piece_round place ps v ≡ Some p → Begins place ps v p
begins_at place [] v p e = let never : ⊥ = cc in absurd never
begins_at place (r ∷ rs) v p e = by (nat_le place v && nat_lt v (behind place r)) refl (λ later. begins_at (behind place r) rs v p later)
  where
    by : (b : Bool) → (nat_le place v && nat_lt v (behind place r)) ≡ b → (piece_round (behind place r) rs v ≡ Some p → Begins (behind place r) rs v p) → Begins place (r ∷ rs) v p
    by true is later =
        let found : Some r ≡ Some p = sym (cond-true (nat_le place v && nat_lt v (behind place r)) (Some r) (piece_round (behind place r) rs v) is) ∙ e in
        let this : r ≡ p = cc in
        let both = and_parts (nat_le place v) (nat_lt v (behind place r)) is in
        record {
          from = place;
          found = cond-true (place == place) (Some r) (piece_at (behind place r) rs place) (eq-eqb place place refl) ∙ found;
          low = leb-true place v both.0;
          high = subst (λ (o : Piece). v < behind place o) this (ltb-true v (behind place r) both.1);
        }
    by false is later =
        let b = later (sym (cond-false (nat_le place v && nat_lt v (behind place r)) (Some r) (piece_round (behind place r) rs v) is) ∙ e) in
        let above = at_low (behind place r) rs b.from p b.found in
        let some = len_some r in
        record {
          from = b.from;
          found = cond-false (b.from == place) (Some r) (piece_at (behind place r) rs b.from) (ne_eqb b.from place (λ e. omega (arith, above, some, e))) ∙ b.found;
          low = b.low;
          high = b.high;
        }

module _ (image versioned : Image) (pieces : List Piece) (sites : List Site) (base : ℕ) (h : IsVersioned image versioned pieces sites base) where
  -- outside the block there is none
  pub round_off : (v : ℕ) → in_block image versioned pieces sites base v ≡ false → piece_round base pieces v ≡ None
  round_off v off = by (piece_round base pieces v) refl
    where
      by : (o : Option Piece) → piece_round base pieces v ≡ o → o ≡ None
      by None e = refl
      by (Some p) e =
          let b = begins_at base pieces v p e in
          let fit = fit_parts image pieces sites base h.fit in
          let is = placed image pieces sites base base pieces b.from p fit.right fit.free b.found in
          let w = within image pieces sites base base pieces b.from p is in
          let low = b.low in
          let high = b.high in
          absurd (both_ways (in_block image versioned pieces sites base v) off
          (and_from (nat_le base v) (nat_lt v (base + 4 * length (pieces_code image base pieces))) (le-leb base v (omega (arith, w.0, low))) (lt-ltb v (base + 4 * length (pieces_code image base pieces)) (omega (arith, w.1, high)))))

  abbrev m : Meaning
  m = meaning pieces sites base

  -- ---- what each address stands for

  text_of_none : (v : ℕ) → piece_round base pieces v ≡ None → text_at pieces sites base v ≡ v
  text_of_none v e = ap (λ o. origin_by pieces base o v) e

  text_of_some : (v : ℕ) (p : Piece) → piece_round base pieces v ≡ Some p → text_at pieces sites base v ≡ origin_of p
  text_of_some v p e = ap (λ o. origin_by pieces base o v) e

  open_of_none : (v : ℕ) → piece_round base pieces v ≡ None → open_at pieces sites base v ≡ []
  open_of_none v e = ap (λ o. calls_by o (calls_round pieces v)) e

  opened_real : (v : ℕ) (o : Option Piece) → piece_round base pieces v ≡ o → is_extra pieces sites base v ≡ false → m.opened_at v ≡ opened_by o (text_at pieces sites base v) (open_at pieces sites base v)
  opened_real v o e real =
      cond-false (is_extra pieces sites base v) (Some (open_at pieces sites base v)) (opened_by (piece_round base pieces v) (text_at pieces sites base v) (open_at pieces sites base v)) real
      ∙ ap (λ q. opened_by q (text_at pieces sites base v) (open_at pieces sites base v)) e

  source_real : (v : ℕ) (o : Option Piece) → piece_round base pieces v ≡ o → m.source_at v ≡ source_by o (text_at pieces sites base v) (open_at pieces sites base v)
  source_real v o e = ap (λ q. source_by q (text_at pieces sites base v) (open_at pieces sites base v)) e

  -- no inlined call is open outside
  pub none_open_at : (v : ℕ) → in_block image versioned pieces sites base v ≡ false → m.open_at v ≡ []
  none_open_at v off = open_of_none v (round_off v off)

  none_some : (o : Option Piece) → not (is_some o) ≡ true → o ≡ None
  none_some None e = refl
  none_some (Some p) e = let never : ⊥ = cc in absurd never

  own_parts : (v : ℕ) → m.is_own v ≡ true → (piece_round base pieces v ≡ None) × (is_extra pieces sites base v ≡ false)
  own_parts v e =
      let p = and_parts (not (is_some (piece_round base pieces v))) (not (is_extra pieces sites base v)) e in
      (none_some (piece_round base pieces v) p.0, not-true (is_extra pieces sites base v) p.1)

  pub means : IsMeaning m
  means = record {
    passed = λ a e. cond-true (is_extra pieces sites base a) _ _ e;
    real = λ a e. (own_parts a e).1;
    none_open = λ a e. open_of_none a (own_parts a e).0;
    source = λ a e. let p = own_parts a e in source_real a None p.0 ∙ ap (λ (n : ℕ). Some n) (text_of_none a p.0);
  }

  -- where a piece or a word of the text begins
  pub text_next : (v at : ℕ) → in_block image versioned pieces sites base at ≡ false → origin pieces base v ≡ at → m.text_at v ≡ at
  text_next v at off stands = by (piece_at base pieces v) refl
    where
      by : (o : Option Piece) → piece_at base pieces v ≡ o → m.text_at v ≡ at
      by (Some p) e =
          let some = len_some p in
          text_of_some v p (round_of base pieces v v p e (omega arith) (omega (arith, some))) ∙ (sym (ap (λ o. origin_by pieces base o v) e) ∙ stands)
      by None e =
          let there : v ≡ at = sym (ap (λ o. origin_by pieces base o v) e) ∙ stands in
          text_of_none v (round_off v (ap (in_block image versioned pieces sites base) there ∙ off)) ∙ there

  -- ---- pairs of steps

  module _ (x y : Stepped) (real : is_extra pieces sites base y.pc ≡ false) where
    abbrev opens : List ℕ
    opens = m.open_at y.pc

    some_list : (a b : List ℕ) → Some a ≡ Some b → a ≡ b
    some_list a b e = cc

    local_made : (p : Piece) → piece_round base pieces y.pc ≡ Some p → x.pc ≡ origin_of p → x.moved ≡ Local → opened_by (Some p) (m.text_at y.pc) opens ≡ Some opens → source_by (Some p) (m.text_at y.pc) opens ≡ Some (m.text_at y.pc) → IsMadeAt m y.pc x
    local_made p e at moved stays from = record {
      source = λ rs opened is. ap (λ q. source_of q x.pc (opens ++ rs)) moved ∙ (ap (λ (n : ℕ). Some n) (at ∙ sym (text_of_some y.pc p e)) ∙ sym (source_real y.pc (Some p) e ∙ from));
      returns = λ rs opened after is so.
          let kept : opens ++ rs ≡ after = some_list (opens ++ rs) after (sym (ap (λ q. returns_by q (opens ++ rs) x) moved) ∙ so) in
          let same_list : opens ≡ opened = some_list opens opened (sym (opened_real y.pc (Some p) e real ∙ stays) ∙ is) in
          sym kept ∙ ap (λ qs. qs ++ rs) same_list;
    }

    copied : (p : Piece) → piece_round base pieces y.pc ≡ Some p → is_local p ≡ true → x.pc ≡ origin_of p → x.moved ≡ Local → IsMadeAt m y.pc x
    copied (Copied at) e local here moved = local_made (Copied at) e here moved refl refl
    copied (Branched at to) e local here moved = local_made (Branched at to) e here moved refl refl
    copied (Jumped at to) e local here moved = local_made (Jumped at to) e here moved refl refl
    copied (Bridge at to) e local here moved = let never : ⊥ = cc in absurd never
    copied (Guard at larger smaller limit to) e local here moved = let never : ⊥ = cc in absurd never
    copied (Entered at to end) e local here moved = let never : ⊥ = cc in absurd never
    copied (Returned at to) e local here moved = let never : ⊥ = cc in absurd never

    entered : (at to end : ℕ) → piece_round base pieces y.pc ≡ Some (Entered at to end) → x.pc ≡ at → x.moved ≡ Call → IsMadeAt m y.pc x
    entered at to end e here moved = record {
      source = λ rs opened is. ap (λ q. source_of q x.pc (opens ++ rs)) moved ∙ sym (source_real y.pc (Some (Entered at to end)) e);
      returns = λ rs opened after is so.
          let put : plus x.pc 4 ∷ (opens ++ rs) ≡ after = some_list (plus x.pc 4 ∷ (opens ++ rs)) after (sym (ap (λ q. returns_by q (opens ++ rs) x) moved) ∙ so) in
          let list : plus (m.text_at y.pc) 4 ∷ opens ≡ opened = some_list (plus (m.text_at y.pc) 4 ∷ opens) opened (sym (opened_real y.pc (Some (Entered at to end)) e real) ∙ is) in
          let same_at : m.text_at y.pc ≡ x.pc = text_of_some y.pc (Entered at to end) e ∙ sym here in
          sym put ∙ (ap (λ n. plus n 4 ∷ (opens ++ rs)) (sym same_at) ∙ ap (λ qs. qs ++ rs) list);
    }

    back_of : (os rs opened after : List ℕ) → without_first os ≡ Some opened → returned (os ++ rs) x.next ≡ Some after → after ≡ opened ++ rs
    back_of [] rs opened after is so = let never : ⊥ = cc in absurd never
    back_of (r ∷ qs) rs opened after is so = by (r == x.next) refl
      where
        by : (b : Bool) → (r == x.next) ≡ b → after ≡ opened ++ rs
        by true e =
            let list : qs ≡ opened = some_list qs opened is in
            let rest : qs ++ rs ≡ after = some_list (qs ++ rs) after (sym (cond-true (r == x.next) (Some (qs ++ rs)) None e) ∙ so) in
            sym rest ∙ ap (λ zs. zs ++ rs) list
        by false e = let bad : None ≡ Some after = sym (cond-false (r == x.next) (Some (qs ++ rs)) None e) ∙ so in let never : ⊥ = cc in absurd never

    call_first : (os rs opened : List ℕ) → without_first os ≡ Some opened → call_of (os ++ rs) ≡ call_of os
    call_first [] rs opened is = let never : ⊥ = cc in absurd never
    call_first (r ∷ qs) rs opened is = refl

    returned_at : (at to : ℕ) → piece_round base pieces y.pc ≡ Some (Returned at to) → x.moved ≡ Return → IsMadeAt m y.pc x
    returned_at at to e moved = record {
      source = λ rs opened is.
          ap (λ q. source_of q x.pc (opens ++ rs)) moved
          ∙ (call_first opens rs opened (sym (opened_real y.pc (Some (Returned at to)) e real) ∙ is) ∙ sym (source_real y.pc (Some (Returned at to)) e));
      returns = λ rs opened after is so.
          back_of opens rs opened after (sym (opened_real y.pc (Some (Returned at to)) e real) ∙ is) (sym (ap (λ q. returns_by q (opens ++ rs) x) moved) ∙ so);
    }

    own_off : (p : Piece) → piece_round base pieces y.pc ≡ Some p → m.is_own y.pc ≡ false
    own_off p e = ap (λ (o : Option Piece). not (is_some o) && not (is_extra pieces sites base y.pc)) e

    pub pair_of : in_block image versioned pieces sites base x.next ≡ false → versions.IsPair image versioned pieces sites base x y → IsPair m x y
    pair_of next_outside (as_it_was e outside site) =
        let here : y.pc ≡ x.pc = ap (λ (z : Stepped). z.pc) e in
        let text : piece_round base pieces y.pc ≡ None = ap (piece_round base pieces) here ∙ round_off x.pc outside in
        same e (and_from (not (is_some (piece_round base pieces y.pc))) (not (is_extra pieces sites base y.pc)) (ap (λ o. not (is_some o)) text) (ap not real))
        (ap m.open_at (ap (λ (z : Stepped). z.next) e) ∙ none_open_at x.next next_outside)
    pair_of next_outside (in_copy p found local at moved moved_too) =
        let some = len_some p in
        let round = round_of base pieces y.pc y.pc p found (omega arith) (omega (arith, some)) in
        apart moved_too (own_off p round) (copied p round local at moved)
    pair_of next_outside (at_call v at to end found here at_is moved moved_too) =
        let round = round_of base pieces v y.pc (Entered at to end) found (omega (arith, here)) (omega (arith, here)) in
        apart moved_too (own_off (Entered at to end) round) (entered at to end round at_is moved)
    pair_of next_outside (at_return at to found at_is moved moved_too) =
        let round = round_of base pieces y.pc y.pc (Returned at to) found (omega arith) (omega arith) in
        apart moved_too (own_off (Returned at to) round) (returned_at at to round moved)

  pub paired_of : (xs ys : List Stepped) → versions.ArePaired image versioned pieces sites base xs ys → ArePaired m xs ys
  paired_of xs ys none_paired = none
  paired_of xs ys (passed_paired {xs = zs} {ys = vs} y before extra) = passed y (paired_of zs vs before) extra
  paired_of xs ys (both_paired {xs = zs} {ys = vs} x y before real pair outside to) =
      both x y (paired_of zs vs before) real (pair_of x y real outside pair) (text_next y.next x.next outside to)
