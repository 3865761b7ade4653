-- A stub in its form is one that stands anywhere in the keyed segment.
use Rattle.std.proofs.Common.{◌≡◌, ℕ, ℤ, zero, suc, pos, negsuc, ◌+◌, ◌-◌, ◌*◌, ◌/◌, ◌%◌, ◌^◌, ◌<◌, ◌≤◌, true, List, [], ◌∷◌, ◌++◌, length, refl, arith, sym, ap, ◌∙◌, subst, add-zero, append-nil, Some}
use Rattle.std.specs.Prelude.{All}
use Rattle.std.specs.List.{sum_by, flat_map}
use Rattle.std.specs.Int.{w32, cast_unsigned, cast_signed}
use Rattle.std.proofs.lemmas.Int.{to_z-of_z, ints}
use Rattle.std.proofs.lemmas.List.Sums.{sum_by-cons}
use Rattle.std.proofs.lemmas.List.Concat.{flat_map-cons}
use Rattle.scale_base.specs.declared.fragments.Fragment.TheVariants as fragments
use Rattle.scale_base.specs.declared.instruction.BranchOp.{BranchOp}
use Rattle.scale_base.specs.declared.instruction.Instr.{Instr}
use Rattle.scale_base.specs.declared.instruction.Instr.TheVariants as instr
use Rattle.scale_base.specs.Arith.{plus, moved_by}
use Rattle.scale_base.specs.Image.{Image, loaded_byte}
use Rattle.scale_base.specs.Layout.{layout_of, is_keyed, can_fetch}
use Rattle.scale_base.specs.Reading.{instr_of}
use Rattle.scale_base.specs.Run.{setting_of}
use Rattle.scale_base.specs.State.{Setting, word_at}
use Rattle.scale_base.specs.Word.{Encodes, IsSignedField}
use Rattle.scale_base.proofs.Laws.{word_reads}
use Rattle.rv_encode.specs.Jumps.{distance}
use Rattle.cost_theory.specs.Graph.{Loops}
use Rattle.stub_writer.specs.Fragments.{fragment_code, code_len, fragment_rows, rows_len, exit_code}
use Rattle.stub_writer.specs.Stubs.{Way, way, fragments_code, way_rows, rows_by, jump, jump_at}
use Rattle.stored_runs.specs.Meaning.{StandsAt, Stand}
use Rattle.stored_runs.specs.Held.{Lie, KeyedFrom, WayStands, ForkStands}
use Rattle.stored_runs.proofs.Laws.{keyed_fetched, codes_length}
use Rattle.foreign_scan.specs.declared.fragment.ForeignFragment.{ForeignFragment}
use Rattle.foreign_scan.specs.declared.fragment.ForeignFragment.TheVariants.{Switch, Exit, Reset, Count}
use Rattle.foreign_scan.specs.Form.{IsKeyWord, HoldsAt, Hold, foreign_code, foreign_len, IsForeign, ChoosesNone, FirstChooses, behind_fragments, IsRunOut, IsFork, AreRowsIn}
use Rattle.image_check.specs.Safe.{Owner, owner_bound, words_from, with_rows, all_with_rows}

-- ---- jumps

-- the offset of a jump is the distance to where it goes
pub offset_is : (from to : ℕ) (offset : ℤ) → IsSignedField 21 offset → from < 2 ^ 32 → moved_by from offset ≡ to → offset ≡ distance (from % 2 ^ 32) (to % 2 ^ 32)
offset_is from to offset field low there = sym (by_sign offset field there)
  where
    by_sign : (z : ℤ) → IsSignedField 21 z → moved_by from z ≡ to → distance (from % 2 ^ 32) (to % 2 ^ 32) ≡ z
    by_sign (pos n) f t =
        let bits : (to % 2 ^ 32 + (2 ^ 32 - from % 2 ^ 32)) % 2 ^ 32 ≡ cast_unsigned w32 (pos n) = omega (arith, ints, t, f, low) in
        ap (cast_signed w32) bits ∙ to_z-of_z w32 (pos n) (omega (arith, f))
    by_sign (negsuc n) f t =
        let bits : (to % 2 ^ 32 + (2 ^ 32 - from % 2 ^ 32)) % 2 ^ 32 ≡ cast_unsigned w32 (negsuc n) = omega (arith, ints, t, f, low) in
        ap (cast_signed w32) bits ∙ to_z-of_z w32 (negsuc n) (omega (arith, f))

-- ---- fragments with their rows

module _ (image : Image) (l : Loops) (owner : Owner) where
  same_len : (f : ForeignFragment) → code_len (with_rows image l owner f) ≡ foreign_len f
  same_len (Switch word) = refl
  same_len (Exit counter shift table) = refl
  same_len (Reset counter) = refl
  same_len (Count counter) = refl

  same_lens : (fs : List ForeignFragment) → sum_by code_len (all_with_rows image l owner fs) ≡ sum_by foreign_len fs
  same_lens [] = refl
  same_lens (f ∷ fs) =
      let one = same_len f in
      let rest = same_lens fs in
      omega (arith, one, rest, sum_by-cons code_len (with_rows image l owner f) (all_with_rows image l owner fs), sum_by-cons foreign_len f fs)

  -- code of fragments that choose no level is the same for all tables
  quiet_one : (table : ℕ) (f : ForeignFragment) → ChoosesNone f → fragment_code table (with_rows image l owner f) ≡ foreign_code f
  quiet_one table (Switch word) q = absurd q
  quiet_one table (Exit counter shift t) q = absurd q
  quiet_one table (Reset counter) q = refl
  quiet_one table (Count counter) q = refl

  quiet_code : (table : ℕ) (fs : List ForeignFragment) → All ChoosesNone fs → fragments_code table (all_with_rows image l owner fs) ≡ flat_map foreign_code fs
  quiet_code table [] q = refl
  quiet_code table (f ∷ fs) q =
      let later = table + 4 * rows_len (with_rows image l owner f) in
      ap (λ c. c ++ fragments_code later (all_with_rows image l owner fs)) (quiet_one table f (q 0 f (omega arith)))
      ∙ (ap (λ c. foreign_code f ++ c) (quiet_code later fs (λ k d lt. q (suc k) d (omega (arith, lt)))) ∙ sym (flat_map-cons foreign_code f fs))

  quiet_rows_one : (f : ForeignFragment) → ChoosesNone f → fragment_rows (with_rows image l owner f) ≡ []
  quiet_rows_one (Switch word) q = refl
  quiet_rows_one (Exit counter shift t) q = absurd q
  quiet_rows_one (Reset counter) q = refl
  quiet_rows_one (Count counter) q = refl

  quiet_rows : (fs : List ForeignFragment) → All ChoosesNone fs → rows_by (all_with_rows image l owner fs) ≡ []
  quiet_rows [] q = refl
  quiet_rows (f ∷ fs) q =
      flat_map-cons fragment_rows (with_rows image l owner f) (all_with_rows image l owner fs)
      ∙ (ap (λ r. r ++ rows_by (all_with_rows image l owner fs)) (quiet_rows_one f (q 0 f (omega arith))) ∙ quiet_rows fs (λ k d lt. q (suc k) d (omega (arith, lt))))

  -- the table of the fragments: that of the first one
  abbrev pub first_table : List ForeignFragment → ℕ
  first_table [] = 0
  first_table (Switch word ∷ fs) = 0
  first_table (Exit counter shift table ∷ fs) = table
  first_table (Reset counter ∷ fs) = 0
  first_table (Count counter ∷ fs) = 0

  joined : (table : ℕ) (f : ForeignFragment) (fs : List ForeignFragment) → fragment_code table (with_rows image l owner f) ≡ foreign_code f → All ChoosesNone fs → fragments_code table (all_with_rows image l owner (f ∷ fs)) ≡ flat_map foreign_code (f ∷ fs)
  joined table f fs one q =
      let later = table + 4 * rows_len (with_rows image l owner f) in
      ap (λ c. c ++ fragments_code later (all_with_rows image l owner fs)) one ∙ (ap (λ c. foreign_code f ++ c) (quiet_code later fs q) ∙ sym (flat_map-cons foreign_code f fs))

  same_code : (fs : List ForeignFragment) → FirstChooses fs → All IsForeign fs → fragments_code (first_table fs) (all_with_rows image l owner fs) ≡ flat_map foreign_code fs
  same_code [] q foreign = refl
  same_code (Switch word ∷ fs) q foreign = joined 0 (Switch word) fs refl q
  same_code (Exit counter shift table ∷ fs) q foreign =
      let fits = foreign 0 (Exit counter shift table) (omega arith) in
      let small : table % 2 ^ 32 ≡ table = omega (arith, fits.2) in
      joined table (Exit counter shift table) fs (ap (exit_code counter shift) small) q
  same_code (Reset counter ∷ fs) q foreign = joined 0 (Reset counter) fs refl q
  same_code (Count counter ∷ fs) q foreign = joined 0 (Count counter) fs refl q

  -- the rows that the first fragment needs
  abbrev pub RowsLie : List ForeignFragment → Type 0
  RowsLie [] = Unit {0}
  RowsLie (Switch word ∷ fs) = Unit {0}
  RowsLie (Exit counter shift table ∷ fs) = AreRowsIn image table (owner_bound l (owner counter) / 2 ^ shift + 1)
  RowsLie (Reset counter ∷ fs) = Unit {0}
  RowsLie (Count counter ∷ fs) = Unit {0}

  words_length : (table n : ℕ) → length (words_from image table n) ≡ n
  words_length table zero = refl
  words_length table (suc n) = ap suc (words_length (table + 4) n)

  module _ (levels : ℕ) (input : List ℕ) (bytes : (a : ℕ) → loaded_byte image a < 256) (below : (a : ℕ) → is_keyed (layout_of image) a ≡ true → a < 0xFFFFF800) where
    abbrev env : Setting
    env = setting_of image levels input

    small_word : (at : ℕ) → word_at (loaded_byte image) at < 2 ^ 32
    small_word at =
        let b0 = bytes at in
        let b1 = bytes (at + 1) in
        let b2 = bytes (at + 2) in
        let b3 = bytes (at + 3) in
        omega (arith, b0, b1, b2, b3)

    pub encoded : (at : ℕ) (i : Instr) → instr_of (word_at (loaded_byte image) at) ≡ Some i → Encodes (word_at (loaded_byte image) at) i
    encoded at i e = (word_reads (word_at (loaded_byte image) at) i (small_word at)).0 e

    first_keyed : (at : ℕ) → IsKeyWord image at → is_keyed (layout_of image) at ≡ true
    first_keyed at key = subst (λ a. is_keyed (layout_of image) a ≡ true) (add-zero at) (key.1 0 (omega arith))

    room : (at : ℕ) → IsKeyWord image at → at + 4 ≤ 0xFFFFF800
    room at key = let last = below (at + 3) (key.1 3 (omega arith)) in let even = key.0 in omega (arith, last, even)

    keyed_word : (at : ℕ) → IsKeyWord image at → KeyedFrom env at (at + 4)
    keyed_word at key = record {
      keyed = λ a low high. (let e : at + (a - at) ≡ a = omega (arith, low) in subst (λ b. is_keyed (layout_of image) b ≡ true) e (key.1 (a - at) (omega (arith, low, high))));
      even = key.0;
      room = (let r = room at key in omega (arith, r));
    }

    fetched : (at : ℕ) → IsKeyWord image at → can_fetch (layout_of image) at ≡ true
    fetched at key = keyed_fetched env at (at + 4) (keyed_word at key) (omega arith)

    pub stands_one : (at : ℕ) (i : Instr) → HoldsAt image at i → StandsAt env (loaded_byte image) at i
    stands_one at i h = record { keyed = first_keyed at h.key; fetched = fetched at h.key; room = (let r = room at h.key in omega (arith, r)); encodes = encoded at i h.reads }

    stand_all : (at : ℕ) (is : List Instr) → Hold image at is → Stand env (loaded_byte image) at is
    stand_all at [] h = tt
    stand_all at (i ∷ is) h = (stands_one at i h.0, stand_all (at + 4) is h.1)

    stand_more : (at : ℕ) (is : List Instr) (i : Instr) → Stand env (loaded_byte image) at is → StandsAt env (loaded_byte image) (at + 4 * length is) i → Stand env (loaded_byte image) at (is ++ i ∷ [])
    stand_more at [] i h one = (let e : at + 4 * 0 ≡ at = omega arith in subst (λ a. StandsAt env (loaded_byte image) a i) e one, tt)
    stand_more at (j ∷ is) i h one =
        let e : at + 4 * length (j ∷ is) ≡ at + 4 + 4 * length is = omega arith in
        (h.0, stand_more (at + 4) is i h.1 (subst (λ a. StandsAt env (loaded_byte image) a i) e one))

    lie_words : (n table : ℕ) → AreRowsIn image table n → Lie env (loaded_byte image) table (words_from image table n)
    lie_words zero table rows = tt
    lie_words (suc n) table rows =
        let key : IsKeyWord image table = (let e : table + 4 * 0 ≡ table = omega arith in subst (IsKeyWord image) e (rows 0 (omega arith))) in (
          record { keyed = first_keyed table key; whole = key.1; fetched = fetched table key; room = (let r = room table key in omega (arith, r)); same = refl },
          lie_words n (table + 4) (λ j lt. (let e : table + 4 * suc j ≡ table + 4 + 4 * j = omega arith in subst (IsKeyWord image) e (rows (suc j) (omega (arith, lt))))),
        )

    abbrev its_way : ℕ → List ForeignFragment → Way
    its_way to fs = way to (all_with_rows image l owner fs)

    -- the rows lie where the table begins
    rows_of_all : (to : ℕ) (fs : List ForeignFragment) → FirstChooses fs → RowsLie fs → Lie env (loaded_byte image) (first_table fs) (way_rows (its_way to fs)) × (first_table fs % 4 ≡ 0) × (first_table fs + 4 * length (way_rows (its_way to fs)) ≤ 0xFFFFF800)
    rows_of_all to [] q rows = (tt, refl, omega arith)
    rows_of_all to (Switch word ∷ fs) q rows = no_rows (sym (flat_map-cons fragment_rows (fragments.Switch word) (all_with_rows image l owner fs) ∙ quiet_rows fs q))
      where
        no_rows : {xs : List ℕ} → [] ≡ xs → Lie env (loaded_byte image) 0 xs × (0 % 4 ≡ 0) × (0 + 4 * length xs ≤ 0xFFFFF800)
        no_rows {xs} e = subst (λ ys. Lie env (loaded_byte image) 0 ys × (0 % 4 ≡ 0) × (0 + 4 * length ys ≤ 0xFFFFF800)) e (tt, refl, omega arith)
    rows_of_all to (Reset counter ∷ fs) q rows = no_rows (sym (flat_map-cons fragment_rows (fragments.Reset counter) (all_with_rows image l owner fs) ∙ quiet_rows fs q))
      where
        no_rows : {xs : List ℕ} → [] ≡ xs → Lie env (loaded_byte image) 0 xs × (0 % 4 ≡ 0) × (0 + 4 * length xs ≤ 0xFFFFF800)
        no_rows {xs} e = subst (λ ys. Lie env (loaded_byte image) 0 ys × (0 % 4 ≡ 0) × (0 + 4 * length ys ≤ 0xFFFFF800)) e (tt, refl, omega arith)
    rows_of_all to (Count counter ∷ fs) q rows = no_rows (sym (flat_map-cons fragment_rows (fragments.Count counter) (all_with_rows image l owner fs) ∙ quiet_rows fs q))
      where
        no_rows : {xs : List ℕ} → [] ≡ xs → Lie env (loaded_byte image) 0 xs × (0 % 4 ≡ 0) × (0 + 4 * length xs ≤ 0xFFFFF800)
        no_rows {xs} e = subst (λ ys. Lie env (loaded_byte image) 0 ys × (0 % 4 ≡ 0) × (0 + 4 * length ys ≤ 0xFFFFF800)) e (tt, refl, omega arith)
    rows_of_all to (Exit counter shift table ∷ fs) q rows =
        let last = owner_bound l (owner counter) / 2 ^ shift in
        let words = words_from image table (last + 1) in
        let all : way_rows (its_way to (Exit counter shift table ∷ fs)) ≡ words =
        flat_map-cons fragment_rows (fragments.Exit counter shift words) (all_with_rows image l owner fs) ∙ (ap (λ r. words ++ r) (quiet_rows fs q) ∙ append-nil words) in
        let key0 = rows 0 (omega arith) in
        let even = key0.0 in
        let end = room (table + 4 * last) (rows last (omega arith)) in
        let long = words_length table (last + 1) in
        subst (λ ys. Lie env (loaded_byte image) table ys × (table % 4 ≡ 0) × (table + 4 * length ys ≤ 0xFFFFF800)) (sym all)
        (lie_words (last + 1) table rows, omega (arith, even), omega (arith, end, long))

    -- a run-out is a way
    pub way_stands : (at to : ℕ) (fs : List ForeignFragment) → IsRunOut image at to fs → RowsLie fs → WayStands env (loaded_byte image) at (its_way to fs)
    way_stands at to fs r rows =
        let table = first_table fs in
        let code = same_code fs r.first r.foreign in
        let stand = subst (Stand env (loaded_byte image) at) (sym code) (stand_all at (flat_map foreign_code fs) r.code) in
        let lens = same_lens fs in
        let long = codes_length table (all_with_rows image l owner fs) in
        let here : jump_at at (its_way to fs) ≡ behind_fragments at fs = ap (λ n. at + 4 * n) lens in
        let jumped = stands_one (behind_fragments at fs) (instr.Jal 0 r.jump.offset) r.jump.jump in
        let place = room (behind_fragments at fs) r.jump.jump.key in
        let fields = jumped.encodes.0 in
        let offset = offset_is (behind_fragments at fs) to r.jump.offset fields.2 (omega (arith, place)) r.jump.there in
        let is : instr.Jal 0 r.jump.offset ≡ jump (jump_at at (its_way to fs)) to = ap (instr.Jal 0) offset ∙ ap (λ a. jump a to) (sym here) in
        let last : StandsAt env (loaded_byte image) (at + 4 * length (fragments_code table (all_with_rows image l owner fs))) (jump (jump_at at (its_way to fs)) to) =
        subst (λ a. StandsAt env (loaded_byte image) a (jump (jump_at at (its_way to fs)) to)) (omega (arith, long, lens)) (subst (StandsAt env (loaded_byte image) (behind_fragments at fs)) is jumped) in
        let parts = rows_of_all to fs r.first rows in
        record {
          table = table;
          code = stand_more at (fragments_code table (all_with_rows image l owner fs)) (jump (jump_at at (its_way to fs)) to) stand last;
          rows = parts.0;
          even = parts.1;
          high = parts.2;
        }

    -- a stub of a branch is a fork
    pub fork_stands : (v stub : ℕ) (op : BranchOp) (rs1 rs2 to : ℕ) (passed taken : List ForeignFragment) → IsFork image v stub (instr.Branch op rs1 rs2) to passed taken → RowsLie passed → RowsLie taken
        → ForkStands env (loaded_byte image) stub op rs1 rs2 (its_way (plus v 4) passed) (its_way to taken)
    fork_stands v stub op rs1 rs2 to passed taken f rows_passed rows_taken = record {
      offset = f.offset;
      to = moved_by stub f.offset;
      branch = stands_one stub (instr.Branch op rs1 rs2 f.offset) f.again;
      leads = refl;
      even = first_even (moved_by stub f.offset) taken f.taken;
      untaken_way = way_stands (stub + 4) (plus v 4) passed f.passed rows_passed;
      taken_way = way_stands (moved_by stub f.offset) to taken f.taken rows_taken;
    }
      where
        -- code begins at a multiple of 4
        first_even : (at : ℕ) (fs : List ForeignFragment) → IsRunOut image at to fs → at % 4 ≡ 0
        first_even at fs r = let even = r.jump.jump.key.0 in omega (arith, even)
