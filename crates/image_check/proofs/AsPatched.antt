-- A scanned image is a patched one, where its edges are safe.
use Rattle.std.proofs.Common.{◌≡◌, ℕ, ◌+◌, ◌/◌, ◌%◌, ◌^◌, ◌<◌, ◌≤◌, Bool, true, false, not, List, [], ◌∷◌, map, refl, arith, sym, ap, ◌∙◌, subst, slice_get, Some, None, Ok}
use Rattle.std.specs.Prelude.{◌==◌, filter}
use Rattle.std.specs.List.{list_any}
use Rattle.std.proofs.lemmas.Bool.{eqb-true, eqb-false, and_parts}
use Rattle.scale_base.specs.declared.instruction.Instr.{Instr}
use Rattle.scale_base.specs.declared.instruction.Instr.TheVariants as instr
use Rattle.scale_base.specs.Arith.{moved_by}
use Rattle.scale_base.specs.Elf.{has}
use Rattle.scale_base.specs.Image.{Image, LoadSegment, image_of, contents, loaded_byte, is_word_address, is_in, PF_R, PF_W}
use Rattle.scale_base.specs.Layout.{Part, layout_of, part_of, is_plain_segment, in_text, is_keyed}
use Rattle.scale_base.specs.Run.{setting_of, starting_level}
use Rattle.scale_base.specs.State.{word_at}
use Rattle.scale_base.specs.Word.{Encodes}
use Rattle.scale_base.proofs.Laws.{contents-are}
use Rattle.scale_base.specs.declared.edges.EdgeKind.{EdgeKind}
use Rattle.scale_base.specs.declared.edges.EdgeKind.TheVariants.{Taken, Untaken, Jump}
use Rattle.cost_theory.specs.Graph.{Loops}
use Rattle.cost_theory.specs.Reached.{Code}
use Rattle.code_text.specs.Text.{Text, text_of, instr_at}
use Rattle.code_text.specs.TextGraph.{IsReachedCode}
use Rattle.graph_runs.proofs.Laws.{text_of_layout, word_bound}
use Rattle.stub_writer.specs.Stubs.{Site, Place, jump}
use Rattle.stored_runs.specs.Held.{StubStands}
use Rattle.stored_runs.specs.Marks.{place_at}
use Rattle.stored_runs.specs.Stubbed.{IsOfImage}
use Rattle.stored_runs.specs.Patched.{AreSafeEdges, HasStub, IsPatched}
use Rattle.stored_runs.proofs.Laws.{key_below}
use Rattle.foreign_scan.specs.declared.fragment.ForeignFragment.{ForeignFragment}
use Rattle.foreign_scan.specs.declared.fragment.ForeignFragment.TheVariants.{Switch, Exit, Reset, Count}
use Rattle.foreign_scan.specs.Form.{IsStub, AreRowsIn}
use Rattle.foreign_scan.specs.declared.layout.SegmentPlace.{SegmentPlace}
use Rattle.foreign_scan.specs.Scanned as scanned
use Rattle.foreign_scan.specs.Scanned.{Found, IsOn, is_changed, IsChanged, CanBePatched, IsScanned}
use Rattle.image_check.specs.Safe.{Owner, owner_bound, place_by, sites_of}
use Rattle.image_check.proofs.Standing.{RowsLie, offset_is, encoded, way_stands, fork_stands}
use Rattle.image_check.proofs.OnEdges.{changed_place, same_place}

-- ---- parts of a layout by the places of segments

abbrev part_from : SegmentPlace → Part
part_from p = record { span = record { from = p.from; len = p.len }; readable = has p.flags PF_R; writable = has p.flags PF_W }

parts_from : (xs : List LoadSegment) → map part_of xs ≡ map part_from (map scanned.segment_place xs)
parts_from [] = refl
parts_from (x ∷ xs) = ap (λ ps. part_of x ∷ ps) (parts_from xs)

same_number : (x y : ℕ) → not (x == y) ≡ false → x ≡ y
same_number x y e = eqb-true x y (by_not (x == y) e)
  where
    by_not : (b : Bool) → not b ≡ false → b ≡ true
    by_not true e = refl
    by_not false e = cc

module _ (original_file file : List ℕ) (original foreign : Image) (original_is : image_of original_file ≡ Ok original) (foreign_is : image_of file ≡ Ok foreign) (bytes : (a : ℕ) → loaded_byte foreign a < 256) (no_key : original.keyed_segment ≡ None)
    (code : Code) (l : Loops) (owner : Owner) (found : Found) (reached : IsReachedCode (text_of original) code) (is : IsScanned original foreign code l found)
    (rows : (at : ℕ) (kind : EdgeKind) (counter shift table : ℕ) → IsOn (Exit counter shift table) (found at kind) → AreRowsIn foreign table (owner_bound l (owner counter) / 2 ^ shift + 1)) where
  abbrev t : Text
  t = text_of original

  abbrev sites : List Site
  sites = sites_of original foreign code l owner found

  same_parts : (layout_of foreign).parts ≡ (layout_of original).parts
  unfolding layout_of
  same_parts =
      parts_from (filter is_plain_segment foreign.segments) ∙ (ap (map part_from) is.layout.segments ∙ sym (parts_from (filter is_plain_segment original.segments)))

  same_text : (a : ℕ) → in_text (layout_of foreign) a ≡ in_text (layout_of original) a
  unfolding layout_of
  same_text a = ap (λ rs. list_any (is_in a) rs) is.layout.text

  same_byte : (a : ℕ) → in_text (layout_of foreign) a ≡ false → is_keyed (layout_of foreign) a ≡ false → loaded_byte foreign a ≡ loaded_byte original a
  same_byte a text key = by_test (loaded_byte foreign a == loaded_byte original a) refl
    where
      by_test : (b : Bool) → (loaded_byte foreign a == loaded_byte original a) ≡ b → loaded_byte foreign a ≡ loaded_byte original a
      by_test true e = eqb-true (loaded_byte foreign a) (loaded_byte original a) e
      by_test false e = absurd (is.bytes a (record { text = sym (same_text a) ∙ text; key = key; differs = eqb-false (loaded_byte foreign a) (loaded_byte original a) e }))

  same_word : (at : ℕ) → is_word_address original at ≡ true → place_at sites at ≡ None → word_at (loaded_byte foreign) at ≡ word_at (loaded_byte original) at
  same_word at word none = by_test (is_changed original foreign at) refl
    where
      by_test : (b : Bool) → is_changed original foreign at ≡ b → word_at (loaded_byte foreign) at ≡ word_at (loaded_byte original) at
      by_test true e = absurd (let a = changed_place original foreign code l owner found reached is at (word, e) in let never : ⊥ = cc in never)
      by_test false e = same_number (word_at (loaded_byte foreign) at) (word_at (loaded_byte original) at) e

  -- ---- stubs

  below : (a : ℕ) → is_keyed (layout_of foreign) a ≡ true → a < 0xFFFFF800
  below a on =
      let same = contents-are file foreign foreign_is in
      let accepted : image_of file ≡ Ok (contents file) = foreign_is ∙ ap (λ (i : Image). Ok i) (sym same) in
      subst (λ i. is_keyed (layout_of i) a ≡ true → a < 0xFFFFF800) same (key_below file accepted a) on

  first_rows : (at : ℕ) (kind : EdgeKind) (fs : List ForeignFragment) → found at kind ≡ fs → RowsLie foreign l owner fs
  first_rows at kind [] e = tt
  first_rows at kind (Switch word ∷ fs) e = tt
  first_rows at kind (Exit counter shift table ∷ fs) e = rows at kind counter shift table (0, ap (λ xs. slice_get xs 0) e)
  first_rows at kind (Reset counter ∷ fs) e = tt
  first_rows at kind (Count counter ∷ fs) e = tt

  low_word : (at : ℕ) → is_word_address original at ≡ true → at < 0xFF000000
  low_word at word = word_bound t (setting_of original 0 []) (text_of_layout original_file original 0 [] original_is) at (and_parts (at % 4 == 0) (list_any (is_in at) original.text) word).1

  stands_by : (levels : ℕ) (input : List ℕ) (at stub : ℕ) (i : Instr) → CanBePatched i → IsStub foreign at stub i (found at) → StubStands (setting_of foreign levels input) (loaded_byte foreign) stub (place_by foreign l owner at (found at) (Some i))
  stands_by levels input at stub (instr.Branch op rs1 rs2 offset) can f =
      fork_stands foreign l owner levels input bytes below at stub op rs1 rs2 (moved_by at offset) (found at Untaken) (found at Taken) f (first_rows at Untaken (found at Untaken) refl) (first_rows at Taken (found at Taken) refl)
  stands_by levels input at stub (instr.Jal rd offset) can r = way_stands foreign l owner levels input bytes below stub (moved_by at offset) (found at Jump) r (first_rows at Jump (found at Jump) refl)
  stands_by levels input at stub (instr.Lui rd imm) can f = absurd can
  stands_by levels input at stub (instr.Auipc rd imm) can f = absurd can
  stands_by levels input at stub (instr.Jalr rd rs1 offset) can f = absurd can
  stands_by levels input at stub (instr.Load op rd rs1 offset) can f = absurd can
  stands_by levels input at stub (instr.Store op rs1 rs2 offset) can f = absurd can
  stands_by levels input at stub (instr.Imm op rd rs1 imm) can f = absurd can
  stands_by levels input at stub (instr.Reg op rd rs1 rs2) can f = absurd can
  stands_by levels input at stub (instr.Fence rd rs1 imm) can f = absurd can
  stands_by levels input at stub instr.Ecall can f = absurd can
  stands_by levels input at stub instr.Ebreak can f = absurd can

  of_image_by : (at : ℕ) (i : Instr) → CanBePatched i → instr_at t at ≡ Some i → IsOfImage original at (place_by foreign l owner at (found at) (Some i))
  of_image_by at (instr.Branch op rs1 rs2 offset) can e = (offset, e, refl, refl)
  of_image_by at (instr.Jal rd offset) can e = (offset, e ∙ ap (λ d. Some (instr.Jal d offset)) can, refl)
  of_image_by at (instr.Lui rd imm) can e = absurd can
  of_image_by at (instr.Auipc rd imm) can e = absurd can
  of_image_by at (instr.Jalr rd rs1 offset) can e = absurd can
  of_image_by at (instr.Load op rd rs1 offset) can e = absurd can
  of_image_by at (instr.Store op rs1 rs2 offset) can e = absurd can
  of_image_by at (instr.Imm op rd rs1 imm) can e = absurd can
  of_image_by at (instr.Reg op rd rs1 rs2) can e = absurd can
  of_image_by at (instr.Fence rd rs1 imm) can e = absurd can
  of_image_by at instr.Ecall can e = absurd can
  of_image_by at instr.Ebreak can e = absurd can

  module _ (levels : ℕ) (limits : ℕ → ℕ) (edges : (at : ℕ) → IsChanged original foreign at → AreSafeEdges levels limits (place_by foreign l owner at (found at) (instr_at t at))) where
    stub_at : (input : List ℕ) (at : ℕ) (p : Place) → is_word_address original at ≡ true → place_at sites at ≡ Some p → HasStub original (setting_of foreign levels input) (loaded_byte foreign) limits at p
    stub_at input at p word there = by_test (is_changed original foreign at) refl
      where
        by_test : (b : Bool) → is_changed original foreign at ≡ b → HasStub original (setting_of foreign levels input) (loaded_byte foreign) limits at p
        by_test false e = absurd (let a = same_place original foreign code l owner found reached is at e in let never : ⊥ = cc in never)
        by_test true e =
            let c : IsChanged original foreign at = (word, e) in
            let q = is.patches at c in
            let place = changed_place original foreign code l owner found reached is at c in
            let same : place_by foreign l owner at (found at) (instr_at t at) ≡ p = (let a = place in cc) in
            let by_old : place_by foreign l owner at (found at) (Some q.old_instr) ≡ p = ap (place_by foreign l owner at (found at)) (sym q.old) ∙ same in
            let low = low_word at word in
            let stub = moved_by at q.offset in
            let jumped = encoded foreign l owner levels input bytes below at (instr.Jal 0 q.offset) q.new in
            let is_jump : instr.Jal 0 q.offset ≡ jump at stub = ap (instr.Jal 0) (offset_is at stub q.offset jumped.0.2 (omega (arith, low)) refl) in
            record {
              stub = stub;
              patch = subst (λ i. Encodes (word_at (loaded_byte foreign) at) i) is_jump jumped;
              small = omega arith;
              even = q.even;
              stands = subst (StubStands (setting_of foreign levels input) (loaded_byte foreign) stub) by_old (stands_by levels input at stub q.old_instr q.can_be ((is.stubs at c).0 q));
              of_image = subst (IsOfImage original at) by_old (of_image_by at q.old_instr q.can_be q.old);
              edges = subst (AreSafeEdges levels limits) same (edges at c);
            }

    pub patched : starting_level levels foreign.keyed_segment < levels → levels ≤ 8 → ((k : ℕ) → limits k ≤ 2 ^ 31) → IsPatched original foreign levels limits sites (starting_level levels foreign.keyed_segment)
    patched low few small = record {
      original_file = original_file;
      original_is = original_is;
      file = file;
      patched_is = foreign_is;
      no_key = no_key;
      entry = is.layout.entry;
      text = is.layout.text;
      segments = same_parts;
      bytes = same_byte;
      words = same_word;
      stubs = stub_at;
      start_is = refl;
      start_is_level = low;
      few_levels = few;
      small_limits = small;
    }
