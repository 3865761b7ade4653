-- The bound of a version's loop that its draft shows is kept by every run of the version.
use Rattle.std.proofs.Common.{◌≡◌, ℕ, ◌<◌, ⊎_elim, List, [], length, Result, None, Ok, false, refl, sym, ap, ◌∙◌, subst}
use Rattle.std.specs.Prelude.{◌==◌, ◌||◌, Bool}
use Rattle.std.specs.List.{list_any}
use Rattle.scale_base.specs.declared.ranges.Range.{Range}
use Rattle.scale_base.specs.Image.{Image, image_of, is_in}
use Rattle.scale_base.specs.Run.{setting_of, start_of}
use Rattle.code_text.specs.Text.{text_of}
use Rattle.code_text.specs.TextGraph.{text_graph}
use Rattle.graph_runs.proofs.Laws.{image_starts}
use Rattle.bound_laws.proofs.Laws.{loaded_small}
use Rattle.stack_laws.proofs.Laws.{image_laid, image_told}
use Rattle.turn_laws.proofs.Laws.{bounded}
use Rattle.loop_file.specs.declared.notes.LoopNote.{LoopNote}
use Rattle.loop_file.specs.Kept.{note_at, noted_loops}
use Rattle.loop_file.specs.Loops.{read_loops}
use Rattle.loop_drafts.specs.Bounds.{IsOpen, IsBoundShown, AreNoneFound, AreBoundsShown, AreBoundsFound}
use Rattle.loop_drafts.specs.Drafted.{filled_most, IsDraftOf}
use Rattle.loop_drafts.specs.declared.trusting.Trust.{Trust}
use Rattle.loop_drafts.specs.Trusting.{AreNoneTrusted}
use Rattle.loop_drafts.proofs.Laws.{nothing_trusted}
use Rattle.loop_drafts.specs.Kept.{AreBytes}
use Rattle.loop_drafts.proofs.Laws.{shown_as}
use Rattle.copy_bounds.specs.Laws.{IsBoundKept}
use Rattle.version_loops.specs.Checked.{AreNotesDrafted, IsDraftedAs}

pub ok_same : {A B : Type 0} (o : Result A B) (x y : A) → o ≡ Ok x → o ≡ Ok y → x ≡ y
ok_same o x y p q = let r : x ≡ y = cc in r

abbrev no_note : LoopNote
no_note = record { header = 0; ranges = []; bound = 0; counted = false; at_least = 0 }

abbrev extent_by : ℕ → List Range → ℕ → Bool
extent_by at ranges = λ v. (v == at) || list_any (is_in v) ranges

-- notes with one header and the same ranges have one extent
one_extent : (one other : LoopNote) → other.header ≡ one.header → other.ranges ≡ one.ranges → extent_by one.header one.ranges ≡ extent_by other.header other.ranges
one_extent one other h r = ap (λ (at : ℕ). extent_by at one.ranges) (sym h) ∙ ap (λ (ranges : List Range). extent_by other.header ranges) (sym r)

-- what is found of the bounds of a draft's notes
found_bounds : (file : List ℕ) (image : Image) (drafted : List LoopNote) → image_of file ≡ Ok image → (is : AreNotesDrafted file image drafted) → AreBoundsFound image None drafted is.draft.returns is.draft.trust
found_bounds file image drafted read is =
    let d = subst (λ (o : Image). IsDraftOf o None is.draft) (ok_same (image_of file) is.drafted.0 image is.drafted.1 read) is.drafted.2.1 in
    subst (λ (ns : List LoopNote). AreBoundsFound image None ns is.draft.returns is.draft.trust)
    (ok_same (read_loops image (filled_most is.draft.pieces.items)) d.pieces.notes drafted d.pieces.file.read is.notes_are) d.pieces.bounds

module _ (file : List ℕ) (image : Image) (levels : ℕ) (input : List ℕ) (drafted notes : List LoopNote) (k : ℕ) (read : image_of file ≡ Ok image) (small_file : AreBytes file) (small_input : AreBytes input)
    (is : IsDraftedAs (note_at drafted k) (note_at notes k)) where
  by_tables : (returns : Bool) (trust : Trust) → AreNoneTrusted trust → (found : AreBoundsShown image None drafted returns trust) → IsBoundShown image found.code found.values found.stacks None (note_at drafted k) →
      IsBoundKept image levels input (noted_loops notes) k
  by_tables returns trust none found shown n d kept =
      let t = text_of image in
      let g = text_graph t found.code in
      let l = noted_loops notes in
      let own = shown_as t g found.values found.stacks None (noted_loops drafted) l k k (sym is.header) (one_extent (note_at drafted k) (note_at notes k) is.header is.ranges) (sym is.bound) (shown drafted k refl) in
      bounded t (setting_of image levels input) (start_of image levels) found.code found.values found.stacks None l (image_starts file image levels input read) found.analysed.reached found.analysed.invariant
      (image_laid image found.code found.values found.stacks found.analysed) (image_told image levels found.code found.values found.stacks found.analysed) (loaded_small file image read small_file) small_input tt k own n
      (nothing_trusted image trust levels input n none found.code found.values found.stacks found.analysed.reached found.trusts) d kept

  pub bound_kept : k < length drafted → AreNotesDrafted file image drafted → IsBoundKept image levels input (noted_loops notes) k
  bound_kept kl made = ⊎_elim
      (λ (none : AreNoneFound drafted made.draft.returns). absurd (is.closed (none.open_loops k no_note kl)))
      (λ (found : AreBoundsShown image None drafted made.draft.returns made.draft.trust). ⊎_elim
      (λ (opened : IsOpen (note_at drafted k)). absurd (is.closed opened))
      (λ (shown : IsBoundShown image found.code found.values found.stacks None (note_at drafted k)). by_tables made.draft.returns made.draft.trust made.untrusting found shown)
      (found.shown k no_note kl))
      (found_bounds file image drafted read made)
