-- The marked instructions of a patched image are the ones that a scan finds, with their fragments.
use Rattle.std.proofs.Common.{◌≡◌, ℕ, ◌+◌, ◌^◌, ◌<◌, Bool, true, false, List, [], refl, arith, sym, ap, ◌∙◌, Option, Some, None}
use Rattle.std.specs.Prelude.{All}
use Rattle.std.specs.List.{list_any}
use Rattle.scale_base.specs.declared.edges.EdgeKind.TheVariants.{Taken}
use Rattle.scale_base.specs.Arith.{plus, moved_by}
use Rattle.scale_base.specs.Image.{Image, loaded_byte, is_in, is_word_address}
use Rattle.scale_base.specs.Layout.{layout_of, is_keyed}
use Rattle.scale_base.specs.Run.{setting_of}
use Rattle.scale_base.specs.State.{Setting}
use Rattle.cost_theory.specs.Graph.{Loops}
use Rattle.cost_theory.specs.Reached.{Code}
use Rattle.code_text.specs.Text.{Text, text_of, instr_at}
use Rattle.code_text.specs.TextGraph.{IsReachedCode}
use Rattle.stub_writer.specs.Stubs.{Site, Way, Place, Forked, Straight, way}
use Rattle.stored_runs.specs.Held.{WayStands, StubStands}
use Rattle.stored_runs.specs.Marks.{place_at}
use Rattle.stored_runs.specs.Stubbed.{IsOfImage}
use Rattle.stored_runs.specs.Patched.{IsSafeEdge, AreSafeEdges, IsPatched, HasStub}
use Rattle.foreign_scan.specs.Scanned.{is_changed, IsScanned, Found}
use Rattle.image_check.specs.Safe.{Owner, all_with_rows, place_by, sites_of}
use Rattle.image_check.proofs.OnEdges.{changed_place, same_place}
use Rattle.image_check.proofs.StoredTables.{IsPlain, found_with, HasItsRows, found_again}
use Rattle.image_check.proofs.StoredPlaces.{AllOn}
use Rattle.image_check.proofs.StoredStubs.{HasWholeWords, found_of}
use Rattle.image_check.proofs.StoredScan as scan
use Rattle.image_check.proofs.StoredScan.{IsMarkedAt, HaveItsRows}

module _ (original foreign : Image) (levels : ℕ) (limits : ℕ → ℕ) (sites : List Site) (start : ℕ) (p : IsPatched original foreign levels limits sites start)
    (code : Code) (l : Loops) (owner : Owner) (reached : IsReachedCode (text_of original) code)
    (marked : (at : ℕ) (q : Place) → place_at sites at ≡ Some q → IsMarkedAt original code at q)
    (low : (at : ℕ) → is_word_address original at ≡ true → at < 2 ^ 32)
    (whole : HasWholeWords foreign) (off : (a : ℕ) → list_any (is_in a) original.text ≡ true → is_keyed (layout_of foreign) a ≡ false)
    (its : (at : ℕ) (q : Place) → place_at sites at ≡ Some q → HaveItsRows l owner q) where
  abbrev t : Text
  t = text_of original

  abbrev env : Setting
  env = setting_of foreign levels []

  abbrev bytes : ℕ → ℕ
  bytes = loaded_byte foreign

  abbrev found : Found
  found = scan.found original foreign levels limits sites start p code reached marked low whole off

  way_again : (at : ℕ) (w : Way) (h : WayStands env bytes at w) → IsSafeEdge levels limits w → All IsPlain w.fragments → All (HasItsRows l owner) w.fragments → (to : ℕ) → w.to ≡ to
      → way to (all_with_rows foreign l owner (found_with h.table w.fragments)) ≡ w
  way_again at w h safe plain own to there =
      let high = h.high in
      ap (way to) (found_again foreign levels [] l owner h.table w.fragments safe.ordered plain own (omega (arith, high)) h.rows) ∙ ap (λ a. way a w.fragments) (sym there)

  place_again : (at stub : ℕ) (q : Place) (stands : StubStands env bytes stub q) → IsOfImage original at q → AreSafeEdges levels limits q → AllOn IsPlain q → HaveItsRows l owner q
      → place_by foreign l owner at (found_of foreign levels [] stub q stands) (instr_at t at) ≡ q
  place_again at stub (Forked op rs1 rs2 untaken taken) stands of safe plain own =
      let fs = found_of foreign levels [] stub (Forked op rs1 rs2 untaken taken) stands in
      let second = way (moved_by at of.0) (all_with_rows foreign l owner (fs Taken)) in
      ap (place_by foreign l owner at fs) of.1
      ∙ (ap (λ w. Forked op rs1 rs2 w second) (way_again (stub + 4) untaken stands.untaken_way safe.0 plain.0 own.0 (plus at 4) of.2)
      ∙ ap (λ w. Forked op rs1 rs2 untaken w) (way_again stands.to taken stands.taken_way safe.1 plain.1 own.1 (moved_by at of.0) of.3))
  place_again at stub (Straight w) stands of safe plain own =
      let fs = found_of foreign levels [] stub (Straight w) stands in
      ap (place_by foreign l owner at fs) of.1 ∙ ap (λ x. Straight x) (way_again stub w stands safe plain own (moved_by at of.0) of.2)

  abbrev stub_at : (at : ℕ) (q : Place) → place_at sites at ≡ Some q → HasStub original env bytes limits at q
  stub_at at q e = p.stubs [] at q (marked at q e).word e

  -- at the address of a word they are the same
  pub place_same : IsScanned original foreign code l found → (at : ℕ) → is_word_address original at ≡ true → place_at (sites_of original foreign code l owner found) at ≡ place_at sites at
  place_same is at word = go (place_at sites at) refl
    where
      go : (o : Option Place) → place_at sites at ≡ o → place_at (sites_of original foreign code l owner found) at ≡ o
      go None e = by_change (is_changed original foreign at) refl
        where
          by_change : (b : Bool) → is_changed original foreign at ≡ b → place_at (sites_of original foreign code l owner found) at ≡ None
          by_change false same = same_place original foreign code l owner found reached is at same
          by_change true other = absurd (scan.changed_marked original foreign levels limits sites start p code reached marked low whole off at (word, other) e)
      go (Some q) e =
          let c = scan.marked_changes original foreign levels limits sites start p code reached marked low whole off at q e in
          let again : place_by foreign l owner at (found at) (instr_at t at) ≡ q =
          scan.by_place original foreign levels limits sites start p code reached marked low whole off at (λ fs. place_by foreign l owner at fs (instr_at t at) ≡ q)
          (λ none. let both : None ≡ Some q = sym none ∙ e in let never : ⊥ = cc in absurd never)
          (λ r d.
          let same : r ≡ q = (let both : Some r ≡ Some q = sym d ∙ e in cc) in
          let s = stub_at at r d in
          place_again at s.stub r s.stands s.of_image s.edges (marked at r d).plain (its at r d) ∙ same) in
          changed_place original foreign code l owner found reached is at c ∙ ap (λ x. Some x) again
