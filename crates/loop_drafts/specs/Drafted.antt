-- What drafting the loop file of an image answers, for inputs of so many bytes at most, where that is told. Each bound is shown by the code: a loop whose bound isn't
-- known stands without one, and the file is drafted only where the loops are taken as it notes them.
use Rattle.std.specs.Prelude.{codes, ◌≡◌, ℕ, ◌^◌, ◌<◌, ◌≤◌, ◌⊎◌, Bool, true, false, List, length, count_by, Option, Some, None, Result, Ok, Err}
use Rattle.std.specs.List.{All}
use Rattle.scale_base.specs.declared.limits.TheConstants.{FILE_LIMIT}
use Rattle.scale_base.specs.declared.ranges.Keyed.{Keyed}
use Rattle.scale_base.specs.declared.refusal.Refusal.{Refusal}
use Rattle.scale_base.specs.declared.refusal.Refusal.TheVariants.{AlreadyScaled, TooManyLoops, TooLarge}
use Rattle.scale_base.specs.Image.{Image, image_of}
use Rattle.code_text.specs.Text.{text_of}
use Rattle.flow_graph.specs.FlowGraph.{FlowGraph, IsGraphOf}
use Rattle.code_graph.specs.Building.{IsBuilt}
use Rattle.loop_file.specs.declared.notes.LoopNote.{LoopNote}
use Rattle.loop_file.specs.Loops.{read_loops}
use Rattle.loop_forest.specs.Tree.{LoopView, IsTreeOf, IsTreeBuilt}
use Rattle.loop_drafts.specs.declared.drafted.Piece.{Piece}
use Rattle.loop_drafts.specs.declared.drafted.LoopDraft.{LoopDraft}
use Rattle.loop_drafts.specs.declared.trusting.Trust.{Trust}
use Rattle.loop_drafts.specs.Trusting.{trusted_stores}
use Rattle.loop_drafts.specs.Countable.{AreCountable}
use Rattle.loop_drafts.specs.Bounds.{most_turns, is_bounded, AreBoundsFound}
use Rattle.loop_drafts.specs.Pieces.{HasFirstLines, filled, printed}

-- the file with the greatest bound for each loop that has none
abbrev pub filled_most : List Piece → List ℕ
filled_most pieces = filled most_turns pieces

-- with bounds filled in, the file of pieces is short enough to be loaded
abbrev pub IsShort : List Piece → Type 0
IsShort pieces = length (filled_most pieces) ≤ FILE_LIMIT

-- ---- a draft

-- what building the loops of notes answers, where that is told apart: nothing where they are taken, else why they are refused
abbrev pub AreTried : FlowGraph → List LoopNote → Option Refusal → Type 0
AreTried v notes None = (tree : LoopView) × IsTreeOf v notes tree
AreTried v notes (Some refusal) = IsTreeBuilt v notes (Err refusal)

-- the loops of notes are taken; or they are refused, and there are parts of the code that turn and are no loops
abbrev pub AreTaken : FlowGraph → List LoopNote → ℕ → Type 0
AreTaken v notes aside = AreTried v notes None ⊎ ((0 < aside) × ((refusal : Refusal) × AreTried v notes (Some refusal)))

-- the file of pieces is read as these notes, whose loops are taken
pub record AreReadAs (original : Image) (v : FlowGraph) (pieces : List Piece) (notes : List LoopNote) (aside : ℕ) : Type 0 where
  pub short : IsShort pieces
  pub read : read_loops original (filled_most pieces) ≡ Ok notes
  pub taken : AreTaken v notes aside
  -- what is counted is what a rewritten image takes
  pub countable : AreCountable v notes aside

-- The pieces of a loop file of the image: how many loops it has, how many of them with a bound that is shown by the code, whether the code shows
-- that returns go back, and what is trusted for both.
pub record AreTakenPieces (original : Image) (most : Option ℕ) (v : FlowGraph) (pieces : List Piece) (loops proved : ℕ) (returns : Bool)
    (trust : Trust) (aside : ℕ) : Type 0 where
  pub notes : List LoopNote
  pub file : AreReadAs original v pieces notes aside
  pub bounds : AreBoundsFound original most notes returns trust
  pub loops_are : loops ≡ length notes
  pub proved_are : proved ≡ count_by is_bounded notes

-- the draft of an image's loop file
pub record IsDraftOf (original : Image) (most : Option ℕ) (draft : LoopDraft) : Type 0 where
  pub graph : FlowGraph
  pub graph_is : IsGraphOf (text_of original) graph
  pub pieces : AreTakenPieces original most graph draft.pieces.items draft.loops draft.proved draft.returns draft.trust draft.aside
  -- the file says whether returns are proved, for inputs of how many bytes its bounds are, where that is told, and how many stores are trusted, where
  -- some are
  pub begins : HasFirstLines most draft.returns (trusted_stores draft.trust) (printed draft.pieces.items)
  -- how many loops have no bound
  pub unbounded : draft.unbounded ≡ count_by (λ piece. piece.is_open) draft.pieces.items
  pub aside_fits : draft.aside < 2 ^ 64

-- ---- refusals

-- Why the file of pieces isn't read: it is too long, or what the call answers that reads it.
abbrev pub ArePiecesUnread : Image → List Piece → Refusal → Type 0
ArePiecesUnread original pieces refusal =
    ((FILE_LIMIT < length (filled_most pieces)) × (refusal ≡ TooLarge (codes "LOOPS")))
    ⊎ (IsShort pieces × (read_loops original (filled_most pieces) ≡ Err refusal))

-- Why pieces are refused: their file isn't read, or what the call answers that builds its loops.
abbrev pub ArePiecesRefused : Image → FlowGraph → List Piece → Refusal → Type 0
ArePiecesRefused original v pieces refusal =
    ArePiecesUnread original pieces refusal
    ⊎ ((notes : List LoopNote) × IsShort pieces × (read_loops original (filled_most pieces) ≡ Ok notes) × IsTreeBuilt v notes (Err refusal))

-- Why the loops of a graph have no draft: there are more than 4,096, or their pieces are refused.
abbrev pub AreLoopsUndrafted : Image → FlowGraph → Refusal → Type 0
AreLoopsUndrafted original v refusal =
    ((count : ℕ) × (4096 < count) × (count < 2 ^ 32) × (refusal ≡ TooManyLoops count))
    ⊎ ((pieces : List Piece) × ArePiecesRefused original v pieces refusal)

-- Why an image has none: its keyed segment, its code, or its loops.
abbrev pub IsImageUndrafted : Image → Refusal → Type 0
IsImageUndrafted original refusal =
    ((keyed : Keyed) × (original.keyed_segment ≡ Some keyed) × (refusal ≡ AlreadyScaled))
    ⊎ ((original.keyed_segment ≡ None) × (IsBuilt (text_of original) (Err refusal)
    ⊎ ((v : FlowGraph) × IsGraphOf (text_of original) v × AreLoopsUndrafted original v refusal)))

-- ---- answers

-- for the file of pieces: its notes
abbrev pub ArePiecesRead : Image → List Piece → Result (List LoopNote) Refusal → Type 0
ArePiecesRead original pieces (Ok notes) = IsShort pieces × (read_loops original (filled_most pieces) ≡ Ok notes)
ArePiecesRead original pieces (Err refusal) = ArePiecesUnread original pieces refusal

-- for the loops of notes: that they are taken, or why they aren't
abbrev pub AreNotesTaken : FlowGraph → List LoopNote → ℕ → Result (Unit {0}) Refusal → Type 0
AreNotesTaken v notes aside (Ok _) = AreTaken v notes aside
AreNotesTaken v notes aside (Err refusal) = IsTreeBuilt v notes (Err refusal)

-- for pieces whose file is to have these notes: whether it has, and they count what can be counted
abbrev pub ArePiecesChecked : Image → FlowGraph → List Piece → List LoopNote → ℕ → Result Bool Refusal → Type 0
ArePiecesChecked original v pieces notes aside (Ok true) = AreReadAs original v pieces notes aside
ArePiecesChecked original v pieces notes aside (Ok false) = Unit {0}
ArePiecesChecked original v pieces notes aside (Err refusal) = ArePiecesRefused original v pieces refusal

-- for bounds, where the file that is made with them has them
abbrev pub IsDraftTried : Image → Option ℕ → FlowGraph → Result (Option LoopDraft) Refusal → Type 0
IsDraftTried original most v (Ok (Some draft)) = IsDraftOf original most draft
IsDraftTried original most v (Ok None) = Unit {0}
IsDraftTried original most v (Err refusal) = AreLoopsUndrafted original v refusal

-- for the graph of an image's code
abbrev pub IsGraphDrafted : Image → Option ℕ → FlowGraph → Result LoopDraft Refusal → Type 0
IsGraphDrafted original most v (Ok draft) = IsDraftOf original most draft
IsGraphDrafted original most v (Err refusal) = AreLoopsUndrafted original v refusal

-- for the image of a file
abbrev pub IsDraftedImage : Image → Option ℕ → Result LoopDraft Refusal → Type 0
IsDraftedImage original most (Ok draft) = (original.keyed_segment ≡ None) × IsDraftOf original most draft
IsDraftedImage original most (Err refusal) = IsImageUndrafted original refusal

-- the draft, or the first refusal: of the file, or of its image
abbrev pub IsDrafted : List ℕ → Option ℕ → Result LoopDraft Refusal → Type 0
IsDrafted image most (Ok draft) = (original : Image) × (image_of image ≡ Ok original) × IsDraftedImage original most (Ok draft)
IsDrafted image most (Err refusal) = (image_of image ≡ Err refusal) ⊎ ((original : Image) × (image_of image ≡ Ok original) ×
    IsDraftedImage original most (Err refusal))
