-- What `loops` gives for an image, for inputs of so many bytes at most, where that is told, and what the stored file keeps to.
use Rattle.std.specs.Prelude.{◌≡◌, ℕ, ◌<◌, ◌≤◌, Bool, true, List, length, Option, Some, Result, Ok, Err}
use Rattle.scale_base.specs.declared.limits.TheConstants.{FILE_LIMIT}
use Rattle.scale_base.specs.declared.refusal.Refusal.{Refusal}
use Rattle.scale_base.specs.Image.{Image, image_of}
use Rattle.scale_base.specs.Run.{run_of}
use Rattle.code_text.specs.Text.{text_of}
use Rattle.flow_graph.specs.FlowGraph.{FlowGraph, IsGraphOf}
use Rattle.cost_theory.specs.Graph.{with_trips}
use Rattle.graph_runs.specs.KeptRuns.{most_returns, IsKeptUpTo}
use Rattle.graph_runs.specs.RunTransitions.{returns_so}
use Rattle.bound_laws.specs.Turning.{with_bounds}
use Rattle.turn_laws.specs.Relating.{IsInputWithin}
use Rattle.loop_file.specs.declared.notes.LoopNote.{LoopNote}
use Rattle.loop_file.specs.Kept.{note_at, noted_loops}
use Rattle.loop_file.specs.Loops.{read_loops}
use Rattle.loop_forest.specs.Tree.{LoopView, IsTreeOf, IsTreeBuilt}
use Rattle.loop_drafts.specs.declared.drafted.LoopDraft.{LoopDraft}
use Rattle.loop_drafts.specs.declared.trusting.Trust.{Trust}
use Rattle.loop_drafts.specs.Trusting.{AreNoneTrusted, IsAllowed, IsTrustKept, trusted_stores}
use Rattle.loop_drafts.specs.Bounds.{IsOpen}
use Rattle.loop_drafts.specs.Drafted.{IsDrafted, filled_most}
use Rattle.loop_drafts.specs.Kept.{AreBytes, AreFinished}
use Rattle.loop_drafts.specs.Pieces.{HasFirstLines, printed}
use Rattle.loop_drafts.specs.Shapes.{HaveOneShape}

-- a draft of the image's loop file, which trusts stores only where that is allowed, and the file as it is printed
pub record IsDraftFile (image : List ℕ) (most : Option ℕ) (trusts : Bool) (stored : List ℕ) (draft : LoopDraft) : Type 0 where
  pub drafted : IsDrafted image most (Ok draft)
  pub allowed : IsAllowed trusts draft.trust
  pub is_printed : stored ≡ printed draft.pieces.items

-- what `loops` gives: such a file with its draft, or the refusal
abbrev pub Drafts : (image : List ℕ) → Option ℕ → (trusts : Bool) → Result (List ℕ × LoopDraft) Refusal → Type 0
Drafts image most trusts (Ok given) = IsDraftFile image most trusts given.0 given.1
Drafts image most trusts (Err refusal) = IsDrafted image most (Err refusal)

-- ---- a loop file, as it is stored or finished by hand

-- The loops of notes are taken in the code of an image.
pub record AreTakenIn (original : Image) (notes : List LoopNote) : Type 0 where
  pub graph : FlowGraph
  pub graph_is : IsGraphOf (text_of original) graph
  pub tree : LoopView
  pub tree_is : IsTreeOf graph notes tree

-- no graph of the image's code refuses the loops of notes
abbrev pub AreNeverRefused : Image → List LoopNote → Type 0
AreNeverRefused original notes = (v : FlowGraph) (refusal : Refusal) → IsGraphOf (text_of original) v → IsTreeBuilt v notes (Err refusal) →
    ⊥

-- A loop file of an image with as many loops as its draft has. Its loops are taken where no part of the code turns that is no loop.
pub record IsLoopFile (original : Image) (draft : LoopDraft) (file : List ℕ) : Type 0 where
  pub notes : List LoopNote
  pub read : read_loops original file ≡ Ok notes
  pub loops_are : draft.loops ≡ length notes
  pub taken : draft.aside ≡ 0 → AreTakenIn original notes

-- What a user makes of a draft: a loop file whose loops have its headers and ranges, with bounds where it has none, and else as it has them.
pub record IsFinishedFile (original : Image) (draft : LoopDraft) (file : List ℕ) (notes : List LoopNote) : Type 0 where
  pub drafted : List LoopNote
  pub drafted_are : read_loops original (filled_most draft.pieces.items) ≡ Ok drafted
  pub read : read_loops original file ≡ Ok notes
  pub shape : HaveOneShape drafted notes
  pub finished : AreFinished drafted notes

-- ---- runs

-- in the first n steps of a run each return goes back to its call, and never are more calls open than a kept run may have
abbrev pub ReturnsGoBack : Image → (levels : ℕ) (input : List ℕ) (n : ℕ) → Type 0
ReturnsGoBack original levels input n = (m : ℕ) → m ≤ n → (rs : List ℕ) × (returns_so (run_of original levels input m).steps ≡ Some rs) ×
    (length rs ≤ most_returns)

-- on every input, however long, for as long as it runs, and as no store that is trusted changes a word that is kept
abbrev pub AlwaysGoesBack : Image → Trust → Type 0
AlwaysGoesBack original trust = (levels : ℕ) (input : List ℕ) (n : ℕ) → AreBytes input → IsTrustKept original trust levels input n →
    ReturnsGoBack original levels input n

-- every run in which no store that is trusted changes a word that is kept keeps the loop file, on every input of at most so many bytes, where that is told:
-- what a stored image promises of runs that keep the file, it promises of all those on such inputs
abbrev pub IsKeptAlways : Image → Option ℕ → Trust → (file : List ℕ) → Type 0
IsKeptAlways original most trust file =
    (notes : List LoopNote) → read_loops original file ≡ Ok notes →
    (levels : ℕ) (input : List ℕ) (n : ℕ) → AreBytes input → IsInputWithin most input → IsTrustKept original trust levels input n →
    IsKeptUpTo original levels input (noted_loops notes) n

-- on every such input such a run keeps the loop file as long as its returns go back
abbrev pub IsKeptByReturns : Image → Option ℕ → Trust → (file : List ℕ) → Type 0
IsKeptByReturns original most trust file =
    (notes : List LoopNote) → read_loops original file ≡ Ok notes →
    (levels : ℕ) (input : List ℕ) (n : ℕ) → AreBytes input → IsInputWithin most input → IsTrustKept original trust levels input n →
    ReturnsGoBack original levels input n →
    IsKeptUpTo original levels input (noted_loops notes) n

-- On every such input such a run that is kept by some bounds and least turns is kept by those of notes, where each loop whose bound was written by
-- hand has one that is no less, and least turns that are no more: so no run breaks a bound or least turns of the draft before it breaks what
-- was written by hand, or a return address.
abbrev pub IsKeptByWritten : Image → Option ℕ → Trust → (drafted notes : List LoopNote) → Type 0
IsKeptByWritten original most trust drafted notes =
    (levels : ℕ) (input : List ℕ) (bounds trips : ℕ → ℕ) (n : ℕ) → AreBytes input → IsInputWithin most input →
    IsTrustKept original trust levels input n →
    ((k : ℕ) → k < length notes → IsOpen (note_at drafted k) →
    (bounds k ≤ (note_at notes k).bound) × ((note_at notes k).at_least ≤ trips k)) →
    IsKeptUpTo original levels input (with_trips (with_bounds (noted_loops notes) bounds) trips) n →
    IsKeptUpTo original levels input (noted_loops notes) n

-- ---- what the stored file keeps to

pub record IsDraftedSafely (image : List ℕ) (most : Option ℕ) (stored : List ℕ) (draft : LoopDraft) : Type 0 where
  pub original : Image
  pub is_image : image_of image ≡ Ok original
  -- it isn't too long to be loaded
  pub short : length stored ≤ FILE_LIMIT
  -- where no loop is open, it is a loop file of the image
  pub whole : draft.unbounded ≡ 0 → IsLoopFile original draft stored
  -- where all bounds are proved as well, every run keeps it whose returns go back and in which no store that is trusted changes a word that is kept, on every
  -- input of at most so many bytes, where that is told
  pub kept : draft.unbounded ≡ 0 → draft.proved ≡ draft.loops → IsKeptByReturns original most draft.trust stored
  -- its first line is `# returns: proved` or `# returns: open`, the next one `# inputs: at most N bytes`, where that is told, and the next one
  -- `# trusted stores: N`, where some are; where none is, nothing is asked of a run for that,
  pub begins : HasFirstLines most draft.returns (trusted_stores draft.trust) stored
  pub untrusting : AreNoneTrusted draft.trust → (levels : ℕ) (input : List ℕ) (n : ℕ) → IsTrustKept original draft.trust levels input n
  -- where returns are proved, those of every run go back, on every input, however long,
  pub goes_back : draft.returns ≡ true → AlwaysGoesBack original draft.trust
  -- and where all bounds are proved as well, every run keeps it, with no premise but that its input is as short as is told, and no trusted store changes a
  -- word that is kept
  pub premise_free : draft.unbounded ≡ 0 → draft.proved ≡ draft.loops → draft.returns ≡ true → IsKeptAlways original most draft.trust stored
  -- with bounds that are written by hand, its loops are taken where no part of the code turns that is no loop,
  pub taken : draft.aside ≡ 0 → (file : List ℕ) (notes : List LoopNote) → IsFinishedFile original draft file notes →
      AreNeverRefused original notes
  -- and these are all that a run has to keep
  pub finished : (file : List ℕ) (notes : List LoopNote) (is : IsFinishedFile original draft file notes) →
      IsKeptByWritten original most draft.trust is.drafted notes
