-- A loop file of a version that is shown covers each of its loops.
use Rattle.std.proofs.Common.{◌≡◌, ℕ, ◌<◌, ⊎_elim, inl, inr, List, None, Ok, refl, sym, ap, ◌∙◌, subst}
use Rattle.scale_base.specs.Image.{Image, image_of}
use Rattle.code_text.specs.Text.{text_of}
use Rattle.code_text.specs.TextGraph.{text_graph}
use Rattle.flow_graph.specs.FlowGraph.{FlowGraph, IsGraphOf}
use Rattle.loop_file.specs.declared.notes.LoopNote.{LoopNote}
use Rattle.loop_file.specs.Kept.{note_at, noted_loops}
use Rattle.loop_versions.specs.Made.{IsVersioned}
use Rattle.loop_drafts.specs.Kept.{AreBytes}
use Rattle.copy_bounds.specs.Copies.{CopiesLoop}
use Rattle.copy_bounds.specs.Meanings.{meaning}
use Rattle.copy_bounds.specs.Laws.{AreCovered}
use Rattle.copy_checks.specs.Checked.{AreMeant, IsCopied}
use Rattle.versioned_images.specs.declared.versions.Version.{Version}
use Rattle.versioned_images.specs.Versions.{IsVersionOf}
use Rattle.version_loops.specs.Checked.{AreNotesDrafted, AreNotesOf, IsShownFile}
use Rattle.version_loops.specs.VersionFile.{IsVersionFile}
use Rattle.version_loops.proofs.Bounds.{ok_same, bound_kept}

module _ (image : Image) (v : FlowGraph) (version : Version) (olds drafted : List LoopNote) (file : List ℕ) (small : AreBytes version.file.items) (read : image_of version.file.items ≡ Ok image)
    (graph : IsGraphOf (text_of image) v) (made : AreNotesDrafted version.file.items image drafted) (is : IsShownFile image v version olds drafted file) where
  abbrev notes : List LoopNote
  notes = is.right.notes

  -- what the copies stand for, over the graph of the code that was looked at
  is_copy : (k : ℕ) → IsCopied is.code (note_at notes k) olds →
      CopiesLoop (meaning version.pieces.items version.sites.items version.base) (text_of image) (text_graph (text_of image) v.code) (noted_loops olds) (noted_loops notes) k
  is_copy k copied =
      let m = meaning version.pieces.items version.sites.items version.base in
      let t = text_of image in
      let own = subst (λ (w : FlowGraph). IsGraphOf t w) (sym is.graph_is) graph in
      let meant = subst (λ (w : FlowGraph). AreMeant m w.code.nodes is.code.meant.now) (sym is.graph_is) is.meant in
      subst (λ (w : FlowGraph). CopiesLoop m t (text_graph t w.code) (noted_loops olds) (noted_loops notes) k) is.graph_is
      (copied m t notes k own (sym is.entry_is) meant refl)

  pub covered : (levels : ℕ) (input : List ℕ) → AreBytes input → AreCovered image version.pieces.items version.sites.items version.base levels input v.code (noted_loops olds) (noted_loops notes)
  covered levels input small_input = record {
    reached = graph.reached;
    calls = is.calls;
    late = λ k kl. (is.right.right.copied k kl).2.late;
    each = λ k kl.
        let x = is.right.right.copied k kl in
        ⊎_elim
        (λ (none : x.0 ≡ None). inl (bound_kept version.file.items image levels input drafted notes k read small small_input (is.right.right.kept k kl x.0 x.1 none)
        (subst (λ (n : ℕ). k < n) is.right.right.size kl) made))
        (λ (copied : IsCopied is.code (note_at notes k) olds). inr (is_copy k copied)) x.2.copied;
  }

-- the image of a version's file, and what it is made of
record IsSeen (image own : Image) (version : Version) : Type 0 where
  is_versioned : IsVersioned image own version.pieces.items version.sites.items version.base
  made : own.file ≡ version.file.items

seen : (plain : List ℕ) (image own : Image) (version : Version) → IsVersionOf plain version → image_of plain ≡ Ok image → image_of version.file.items ≡ Ok own → IsSeen image own version
seen plain image own version is read read_own =
    let first : is.image ≡ image = ok_same (image_of plain) is.image image is.is_read read in
    let second : is.versioned ≡ own = ok_same (image_of version.file.items) is.versioned own (ap image_of (sym is.file) ∙ is.is_versioned.read_too) read_own in
    let there = subst (λ (i : Image). IsVersioned i is.versioned version.pieces.items version.sites.items version.base) first is.is_versioned in
    record {
      is_versioned = subst (λ (i : Image). IsVersioned image i version.pieces.items version.sites.items version.base) second there;
      made = ap (λ (i : Image). i.file) (sym second) ∙ is.file;
    }

pub version_file : (plain loops file : List ℕ) (version : Version) (own : Image) (v : FlowGraph) (olds drafted : List LoopNote) → AreBytes version.file.items → IsVersionOf plain version →
    AreNotesOf plain loops olds → image_of version.file.items ≡ Ok own → IsGraphOf (text_of own) v → AreNotesDrafted version.file.items own drafted → IsShownFile own v version olds drafted file →
    IsVersionFile plain loops version file
version_file plain loops file version own v olds drafted small is program read graph made shown =
    let s = seen plain program.image own version is program.is_read read in
    record {
      image = program.image;
      versioned = own;
      olds = olds;
      notes = shown.right.notes;
      code = v.code;
      is_read = program.is_read;
      olds_are = program.notes_are;
      is_versioned = s.is_versioned;
      made = s.made;
      notes_are = shown.right.notes_are;
      covered = covered own v version olds drafted file small read graph made shown;
    }
