-- The words that stand in the versioned image but not in the original make no calls and no returns.
use Rattle.std.proofs.Common.{◌≡◌, ◌≢◌, ℕ, ◌+◌, ◌*◌, ◌%◌, ◌<◌, ◌≤◌, Bool, true, false, not, List, [], ◌∷◌, length, refl, sym, ap, ◌∙◌, subst, arith, Option, Some, None, inl, inr}
use Rattle.std.specs.Prelude.{◌&&◌, nat_le, nat_lt, is_some}
use Rattle.std.proofs.lemmas.Bool.{cond-true, cond-false, and_parts, and_from, or_cases, both_ways, cases_lt, lt-ltb, ltb-true}
use Rattle.scale_base.specs.declared.instruction.Instr.{Instr}
use Rattle.scale_base.specs.declared.stepping.Move.TheVariants.{Local}
use Rattle.scale_base.specs.Image.{Image, loaded_byte}
use Rattle.scale_base.specs.Reading.{instr_of}
use Rattle.scale_base.specs.State.{Setting, word_at}
use Rattle.scale_base.specs.Step.{move_of}
use Rattle.scale_base.specs.Run.{setting_of}
use Rattle.scale_base.proofs.Laws.{word_back}
use Rattle.code_text.specs.Text.{text_of, instr_at}
use Rattle.stub_writer.specs.Stubs.{jump}
use Rattle.image_lower.specs.TreeRuns.{CodeStands}
use Rattle.loop_versions.specs.declared.pieces.Piece.{Piece}
use Rattle.loop_versions.specs.declared.pieces.Piece.TheVariants.{Copied, Branched, Jumped, Bridge, Guard, Entered, Returned}
use Rattle.loop_versions.specs.declared.pieces.Site.{Site}
use Rattle.loop_versions.specs.Pieces.{behind, site_at, piece_code, extra_len, in_extra, is_site}
use Rattle.loop_versions.specs.Fitting.{is_right}
use Rattle.loop_versions.specs.Made.{IsVersioned}
use Rattle.loop_versions.proofs.Laws.{branch_code, branch_of, code_len, copied_code, copy_of, extra_few}
use Rattle.version_laws.proofs.Laws.{frame_of, plain_local}
use Rattle.copy_bounds.specs.Copies.{Meaning}
use Rattle.copy_bounds.specs.Meanings.{piece_round, meaning}
use Rattle.copy_bounds.proofs.Meanings.{begins_at}

abbrev IsLocal : Instr → Type 0
IsLocal i = move_of i ≡ Local

abbrev AreLocal : List Instr → Type 0
AreLocal [] = Unit {0}
AreLocal (i ∷ is) = IsLocal i × AreLocal is

-- the instructions of a piece
local_code : (image : Image) (pieces : List Piece) (base v : ℕ) (p : Piece) → is_right image pieces base v p ≡ true → AreLocal (piece_code image v p)
local_code image pieces base v (Copied at) right =
    let c = copy_of image pieces base v at right in
    subst AreLocal (sym (copied_code image pieces base v at c)) (plain_local c.i c.plain, tt)
local_code image pieces base v (Branched at to) right =
    let b = branch_of image pieces base v at to right in
    subst AreLocal (sym (branch_code image pieces base v at to b)) (refl, tt)
local_code image pieces base v (Jumped at to) right = (refl, tt)
local_code image pieces base v (Bridge at to) right = (refl, tt)
local_code image pieces base v (Guard at larger smaller limit to) right = (refl, (refl, (refl, (refl, (refl, (refl, (refl, (refl, (refl, tt)))))))))
local_code image pieces base v (Entered at to end) right = (refl, (refl, (refl, tt)))
local_code image pieces base v (Returned at to) right = (refl, tt)

-- one of the instructions that stand from an address on
word_local : (env : Setting) (bytes : ℕ → ℕ) (v a : ℕ) (code : List Instr) → CodeStands env bytes v code → AreLocal code → v ≤ a → a < v + 4 * length code → v % 4 ≡ 0 → a % 4 ≡ 0 →
    (i : Instr) → instr_of (word_at bytes a) ≡ Some i → IsLocal i
word_local env bytes v a [] stand all low high even same i read = absurd (omega (arith, low, high))
word_local env bytes v a (c ∷ cs) stand all low high even same i read = elim (cases_lt a (v + 4)) [
  | inl near ↦
      let here : a ≡ v = omega (arith, near, low, even, same) in
      let found : Some c ≡ Some i = sym (word_back (word_at bytes v) c stand.0.encodes) ∙ (sym (ap (λ b. instr_of (word_at bytes b)) here) ∙ read) in
      let is : c ≡ i = cc in
      subst IsLocal is all.0
  | inr far ↦ word_local env bytes (v + 4) a cs stand.1 all.1 far (omega (arith, high)) (omega (arith, even)) same i read
]

-- what stands for no step of the original lies in a piece
extra_round : (place : ℕ) (ps : List Piece) (a : ℕ) → in_extra place ps a ≡ true → piece_round place ps a ≢ None
extra_round place [] a e none = let never : ⊥ = cc in absurd never
extra_round place (p ∷ ps) a e none = by (nat_le place a && nat_lt a (behind place p)) refl (λ later rest. extra_round (behind place p) ps a later rest)
  where
    by : (b : Bool) → (nat_le place a && nat_lt a (behind place p)) ≡ b → (in_extra (behind place p) ps a ≡ true → piece_round (behind place p) ps a ≢ None) → ⊥
    by true is rest =
        let some : Some p ≡ None = sym (cond-true (nat_le place a && nat_lt a (behind place p)) (Some p) (piece_round (behind place p) ps a) is) ∙ none in
        let never : ⊥ = cc in never
    by false is rest = elim (or_cases (nat_le place a && nat_lt a (place + 4 * extra_len p)) (in_extra (behind place p) ps a) e) [
      | inl here ↦
          let q = and_parts (nat_le place a) (nat_lt a (place + 4 * extra_len p)) here in
          let less = ltb-true a (place + 4 * extra_len p) q.1 in
          let few = extra_few p in
          both_ways (nat_le place a && nat_lt a (behind place p)) is (and_from (nat_le place a) (nat_lt a (behind place p)) q.0 (lt-ltb a (behind place p) (omega (arith, less, few))))
      | inr later ↦ rest later (sym (cond-false (nat_le place a && nat_lt a (behind place p)) (Some p) (piece_round (behind place p) ps a) is) ∙ none)
    ]

module _ (image versioned : Image) (pieces : List Piece) (sites : List Site) (base levels : ℕ) (input : List ℕ) (h : IsVersioned image versioned pieces sites base) where
  abbrev m : Meaning
  m = meaning pieces sites base

  abbrev read_at : ℕ → Option Instr
  read_at a = instr_of (word_at (loaded_byte versioned) a)

  in_piece : (a : ℕ) (i : Instr) (p : Piece) → piece_round base pieces a ≡ Some p → a % 4 ≡ 0 → read_at a ≡ Some i → IsLocal i
  in_piece a i p e even read =
      let f = frame_of image versioned pieces sites base levels input h in
      let b = begins_at base pieces a p e in
      let is = f.pieces_at b.from p b.found in
      let size = code_len image pieces base b.from p is.right in
      let high = b.high in
      word_local (setting_of versioned levels input) (loaded_byte versioned) b.from a (piece_code image b.from p) is.code (local_code image pieces base b.from p is.right) b.low (omega (arith, high, size)) is.even even i read

  at_site : (a : ℕ) (i : Instr) → is_site sites a ≡ true → a % 4 ≡ 0 → read_at a ≡ Some i → IsLocal i
  at_site a i on even read = by (site_at sites a) refl
    where
      by : (o : Option Site) → site_at sites a ≡ o → IsLocal i
      by None e = let f = frame_of image versioned pieces sites base levels input h in absurd (both_ways (is_site sites a) (f.no_site a e) on)
      by (Some s) e =
          let f = frame_of image versioned pieces sites base levels input h in
          word_local (setting_of versioned levels input) (loaded_byte versioned) a a (jump a s.to ∷ []) ((f.sites_at a s e).jumps, tt) (refl, tt) (omega arith) (omega arith) even even i read

  -- a word of a piece, or of a site
  pub foreign_local : (a : ℕ) (i : Instr) → a % 4 ≡ 0 → instr_at (text_of versioned) a ≡ Some i → m.is_own a ≡ false → move_of i ≡ Local
  foreign_local a i even read off = by (piece_round base pieces a) refl
    where
      extra_on : (o : Option Piece) (x : Bool) → o ≡ None → (not (is_some o) && not x) ≡ false → x ≡ true
      extra_on None true none e = refl
      extra_on None false none e = let never : ⊥ = cc in absurd never
      extra_on (Some p) x none e = let never : ⊥ = cc in absurd never

      by : (o : Option Piece) → piece_round base pieces a ≡ o → move_of i ≡ Local
      by (Some p) e = in_piece a i p e even read
      by None e = elim (or_cases (is_site sites a) (in_extra base pieces a) (extra_on (piece_round base pieces a) (m.is_extra a) e off)) [
        | inl site ↦ at_site a i site even read
        | inr extra ↦ absurd (extra_round base pieces a extra e)
      ]
