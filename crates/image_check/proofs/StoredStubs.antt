-- A stub that stands in the keyed segment of a stored image is in its form.
use Rattle.std.proofs.Common.{◌≡◌, ℕ, ℤ, ◌+◌, ◌-◌, ◌*◌, ◌%◌, ◌^◌, ◌<◌, true, List, [], ◌∷◌, ◌++◌, length, arith, sym, ap, ◌∙◌, subst}
use Rattle.std.specs.Prelude.{All, ◌==◌}
use Rattle.std.specs.Int.{w32}
use Rattle.std.proofs.lemmas.Int.{of_z-to_z}
use Rattle.std.proofs.lemmas.Bool.{and_parts, eqb-true}
use Rattle.scale_base.specs.declared.instruction.BranchOp.{BranchOp}
use Rattle.scale_base.specs.declared.instruction.Instr.{Instr}
use Rattle.scale_base.specs.declared.instruction.Instr.TheVariants as instr
use Rattle.scale_base.specs.declared.edges.EdgeKind.{EdgeKind}
use Rattle.scale_base.specs.declared.edges.EdgeKind.TheVariants.{Taken, Untaken, Jump, Next, CallNext, End}
use Rattle.scale_base.specs.Arith.{plus, moved_by}
use Rattle.scale_base.specs.Image.{Image, loaded_byte}
use Rattle.scale_base.specs.Layout.{layout_of, is_keyed, each_byte, fetches_byte}
use Rattle.scale_base.specs.Run.{setting_of}
use Rattle.scale_base.specs.State.{Setting, word_at}
use Rattle.scale_base.proofs.Laws.{word_back}
use Rattle.rv_encode.specs.Jumps.{distance}
use Rattle.stub_writer.specs.Stubs.{Way, Place, Forked, Straight, fragments_code, jump, jump_at}
use Rattle.stored_runs.specs.Meaning.{StandsAt, Stand}
use Rattle.stored_runs.specs.Held.{WayStands, ForkStands, StubStands}
use Rattle.stored_runs.proofs.Laws.{codes_length}
use Rattle.stored_runs.specs.Patched.{IsSafeEdge}
use Rattle.foreign_scan.specs.declared.fragment.ForeignFragment.{ForeignFragment}
use Rattle.foreign_scan.specs.Form.{HoldsAt, Hold, behind_fragments, JumpsTo, IsRunOut, IsStub}
use Rattle.image_check.proofs.StoredTables.{IsPlain, found_with, found_code, found_lens, found_length, found_foreign, found_first}

-- a jump's distance leads there
pub reaches_to : (from to : ℕ) → from < 2 ^ 32 → to < 2 ^ 32 → moved_by from (distance (from % 2 ^ 32) (to % 2 ^ 32)) ≡ to
reaches_to from to h g =
    ap (plus from) (of_z-to_z w32 ((to % 2 ^ 32 + (2 ^ 32 - from % 2 ^ 32)) % 2 ^ 32) (omega arith)) ∙ omega arith

-- each word of the keyed segment whose address is a multiple of 4 lies in it whole
abbrev pub HasWholeWords : Image → Type 0
HasWholeWords image = (a j : ℕ) → a % 4 ≡ 0 → is_keyed (layout_of image) a ≡ true → j < 4 → is_keyed (layout_of image) (a + j) ≡ true

-- by the kind of an edge, the fragments that stand in the stub
abbrev pub found_of : (image : Image) (levels : ℕ) (input : List ℕ) (stub : ℕ) (p : Place) → StubStands (setting_of image levels input) (loaded_byte image) stub p → EdgeKind → List ForeignFragment
found_of image levels input stub (Forked op rs1 rs2 untaken taken) h Taken = found_with h.taken_way.table taken.fragments
found_of image levels input stub (Forked op rs1 rs2 untaken taken) h Untaken = found_with h.untaken_way.table untaken.fragments
found_of image levels input stub (Forked op rs1 rs2 untaken taken) h Jump = []
found_of image levels input stub (Forked op rs1 rs2 untaken taken) h Next = []
found_of image levels input stub (Forked op rs1 rs2 untaken taken) h CallNext = []
found_of image levels input stub (Forked op rs1 rs2 untaken taken) h End = []
found_of image levels input stub (Straight w) h Jump = found_with h.table w.fragments
found_of image levels input stub (Straight w) h Taken = []
found_of image levels input stub (Straight w) h Untaken = []
found_of image levels input stub (Straight w) h Next = []
found_of image levels input stub (Straight w) h CallNext = []
found_of image levels input stub (Straight w) h End = []

module _ (image : Image) (levels : ℕ) (input : List ℕ) (whole : HasWholeWords image) where
  abbrev env : Setting
  env = setting_of image levels input

  even_of : (at : ℕ) (i : Instr) → StandsAt env (loaded_byte image) at i → at % 4 ≡ 0
  even_of at i h = eqb-true (at % 4) 0 (and_parts (at % 4 == 0) (each_byte (fetches_byte (layout_of image)) at 4) h.fetched).0

  pub holds_one : (at : ℕ) (i : Instr) → StandsAt env (loaded_byte image) at i → HoldsAt image at i
  holds_one at i h =
      let even = even_of at i h in
      record { key = (even, λ j lt. whole at j even h.keyed lt); reads = word_back (word_at (loaded_byte image) at) i h.encodes }

  holds_left : (at : ℕ) (is js : List Instr) → Stand env (loaded_byte image) at (is ++ js) → Hold image at is
  holds_left at [] js h = tt
  holds_left at (i ∷ is) js h = (holds_one at i h.0, holds_left (at + 4) is js h.1)

  stands_right : (at : ℕ) (is js : List Instr) → Stand env (loaded_byte image) at (is ++ js) → Stand env (loaded_byte image) (at + 4 * length is) js
  stands_right at [] js h = let e : at ≡ at + 4 * length {A = Instr} [] = omega arith in subst (λ a. Stand env (loaded_byte image) a js) e h
  stands_right at (i ∷ is) js h =
      let e : at + 4 + 4 * length is ≡ at + 4 * length (i ∷ is) = omega arith in
      subst (λ a. Stand env (loaded_byte image) a js) e (stands_right (at + 4) is js h.1)

  jumps_to : (at to : ℕ) → to < 2 ^ 32 → StandsAt env (loaded_byte image) at (jump at to) → JumpsTo image at to
  jumps_to at to small h = record {
    offset = distance (at % 2 ^ 32) (to % 2 ^ 32);
    jump = holds_one at (jump at to) h;
    there = (let room = h.room in reaches_to at to (omega (arith, room)) small);
  }

  -- a way is a run-out
  pub run_out : (limits : ℕ → ℕ) (at : ℕ) (w : Way) (h : WayStands env (loaded_byte image) at w) → IsSafeEdge levels limits w → All IsPlain w.fragments → IsRunOut image at w.to (found_with h.table w.fragments)
  run_out limits at w h safe plain =
      let code = fragments_code h.table w.fragments in
      let fs = found_with h.table w.fragments in
      let last = jump (jump_at at w) w.to in
      let lens = found_lens h.table w.fragments plain in
      let size = found_length h.table w.fragments in
      let few = safe.few in
      let place : jump_at at w ≡ behind_fragments at fs = ap (λ n. at + 4 * n) (sym lens) in
      let there : StandsAt env (loaded_byte image) (jump_at at w) last =
      subst (λ n. StandsAt env (loaded_byte image) (at + 4 * n) last) (codes_length h.table w.fragments) (stands_right at code (last ∷ []) h.code).0 in
      record {
        few = omega (arith, size, few);
        first = found_first h.table w.fragments safe.ordered;
        foreign = found_foreign levels limits h.table w.fragments safe.safe;
        code = subst (Hold image at) (sym (found_code h.table w.fragments plain)) (holds_left at code (last ∷ []) h.code);
        jump = subst (λ a. JumpsTo image a w.to) place (jumps_to (jump_at at w) w.to safe.small there);
      }

  -- a stub is in its form
  pub stub_is : (limits : ℕ → ℕ) (v stub : ℕ) (op : BranchOp) (rs1 rs2 : ℕ) (offset : ℤ) (untaken taken : Way) (h : ForkStands env (loaded_byte image) stub op rs1 rs2 untaken taken) → untaken.to ≡ plus v 4 → taken.to ≡ moved_by v offset
      → IsSafeEdge levels limits untaken → IsSafeEdge levels limits taken → All IsPlain untaken.fragments → All IsPlain taken.fragments
      → IsStub image v stub (instr.Branch op rs1 rs2 offset) (found_of image levels input stub (Forked op rs1 rs2 untaken taken) h)
  stub_is limits v stub op rs1 rs2 offset untaken taken h next there safe_untaken safe_taken plain_untaken plain_taken = record {
    offset = h.offset;
    again = holds_one stub (instr.Branch op rs1 rs2 h.offset) h.branch;
    passed = subst (λ a. IsRunOut image (stub + 4) a (found_with h.untaken_way.table untaken.fragments)) next (run_out limits (stub + 4) untaken h.untaken_way safe_untaken plain_untaken);
    taken = subst (λ a. IsRunOut image a (moved_by v offset) (found_with h.taken_way.table taken.fragments)) (sym h.leads)
        (subst (λ a. IsRunOut image h.to a (found_with h.taken_way.table taken.fragments)) there (run_out limits h.to taken h.taken_way safe_taken plain_taken));
  }

  pub jump_is : (limits : ℕ → ℕ) (v stub rd : ℕ) (offset : ℤ) (w : Way) (h : WayStands env (loaded_byte image) stub w) → w.to ≡ moved_by v offset → IsSafeEdge levels limits w → All IsPlain w.fragments
      → IsStub image v stub (instr.Jal rd offset) (found_of image levels input stub (Straight w) h)
  jump_is limits v stub rd offset w h there safe plain = subst (λ a. IsRunOut image stub a (found_with h.table w.fragments)) there (run_out limits stub w h safe plain)

  -- the first word of a stub lies in the keyed segment
  pub stub_keyed : (stub : ℕ) (p : Place) → StubStands env (loaded_byte image) stub p → is_keyed (layout_of image) stub ≡ true
  stub_keyed stub (Forked op rs1 rs2 untaken taken) h = h.branch.keyed
  stub_keyed stub (Straight w) h = by (fragments_code h.table w.fragments) h.code
    where
      by : (is : List Instr) → Stand env (loaded_byte image) stub (is ++ jump (jump_at stub w) w.to ∷ []) → is_keyed (layout_of image) stub ≡ true
      by [] c = c.0.keyed
      by (i ∷ is) c = c.0.keyed
