-- Scaffold: what is checked of the notes of a version, by those of its draft and by copies.
use Rattle.std.specs.Prelude.{◌≡◌, ◌≢◌, ℕ, ◌<◌, List, length, slice_get, Option, Some, None, Ok}
use Rattle.scale_base.specs.Image.{Image, image_of}
use Rattle.code_text.specs.Text.{text_of}
use Rattle.code_text.specs.TextGraph.{text_graph}
use Rattle.flow_graph.specs.FlowGraph.{FlowGraph}
use Rattle.loop_file.specs.declared.notes.LoopNote.{LoopNote}
use Rattle.loop_file.specs.Kept.{note_at}
use Rattle.loop_file.specs.Loops.{read_loops}
use Rattle.loop_drafts.specs.declared.drafted.LoopDraft.{LoopDraft}
use Rattle.loop_drafts.specs.Bounds.{most_turns}
use Rattle.loop_drafts.specs.Drafted.{filled_most, IsDrafted}
use Rattle.loop_drafts.specs.Trusting.{AreNoneTrusted}
use Rattle.copy_bounds.specs.Copies.{KeepsOpenCalls}
use Rattle.copy_bounds.specs.Meanings.{meaning}
use Rattle.copy_checks.specs.declared.covering.CopyReason.{CopyReason}
use Rattle.copy_checks.specs.declared.tables.CopyCode.{CopyCode}
use Rattle.copy_checks.specs.Checked.{AreCopied, AreMeant}
use Rattle.versioned_images.specs.declared.versions.Version.{Version}

-- ---- of each note

-- the note has the header, the ranges and the bound of a drafted one, which isn't open
pub record IsDraftedAs (drafted note : LoopNote) : Type 0 where
  pub header : note.header ≡ drafted.header
  pub ranges : note.ranges ≡ drafted.ranges
  pub bound : note.bound ≡ drafted.bound
  pub closed : drafted.bound ≢ most_turns

-- so is each note without a reason
abbrev pub IsKeptSo : (reason : Option CopyReason) (drafted note : LoopNote) → Type 0
IsKeptSo reason drafted note = reason ≡ None → IsDraftedAs drafted note

abbrev pub AreKeptSo : List (Option CopyReason) → (drafted notes : List LoopNote) → Type 0
AreKeptSo reasons drafted notes = (k : ℕ) → k < length notes → (reason : Option CopyReason) → slice_get reasons k ≡ Some reason →
    IsKeptSo reason (note_at drafted k) (note_at notes k)

-- the notes of a version, by the reasons why some of its loops are copies, and by its draft
pub record AreRight (c : CopyCode) (olds drafted notes : List LoopNote) (reasons : List (Option CopyReason)) : Type 0 where
  pub size : length notes ≡ length drafted
  pub copied : AreCopied c notes olds reasons
  pub kept : AreKeptSo reasons drafted notes

-- ---- of a file

-- the notes of an image with a loop file
pub record AreNotesOf (file loops : List ℕ) (notes : List LoopNote) : Type 0 where
  pub image : Image
  pub is_read : image_of file ≡ Ok image
  pub notes_are : read_loops image loops ≡ Ok notes

-- the notes of a draft of a file that trusts no store, with the greatest bound for each loop that has none
pub record AreNotesDrafted (file : List ℕ) (image : Image) (notes : List LoopNote) : Type 0 where
  pub draft : LoopDraft
  pub drafted : IsDrafted file None (Ok draft)
  pub untrusting : AreNoneTrusted draft.trust
  pub notes_are : read_loops image (filled_most draft.pieces.items) ≡ Ok notes

-- a loop file of a version with such a graph whose notes are right
pub record IsRightFile (image : Image) (c : CopyCode) (olds drafted : List LoopNote) (file : List ℕ) : Type 0 where
  pub notes : List LoopNote
  pub reasons : List (Option CopyReason)
  pub notes_are : read_loops image file ≡ Ok notes
  pub right : AreRight c olds drafted notes reasons

-- and whose copies keep to the inlined calls that are open
pub record IsShownFile (image : Image) (v : FlowGraph) (version : Version) (olds drafted : List LoopNote) (file : List ℕ) : Type 0 where
  pub code : CopyCode
  pub graph_is : code.graph.now ≡ v
  pub entry_is : code.entry ≡ image.entry
  pub meant : AreMeant (meaning version.pieces.items version.sites.items version.base) v.code.nodes code.meant.now
  pub calls : KeepsOpenCalls (meaning version.pieces.items version.sites.items version.base) (text_graph (text_of image) v.code)
  pub right : IsRightFile image code olds drafted file
