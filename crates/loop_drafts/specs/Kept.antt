-- The laws of drafted bounds: what a run of the image keeps, on each input that is as short as was told.
use Rattle.std.specs.Prelude.{◌≡◌, ℕ, ◌<◌, ◌≤◌, ◌⊎◌, true, All, List, length, Option, Some, Ok}
use Rattle.scale_base.specs.declared.refusal.Refusal.{Refusal}
use Rattle.scale_base.specs.Image.{Image, image_of}
use Rattle.scale_base.specs.Run.{run_of}
use Rattle.code_text.specs.Text.{text_of}
use Rattle.flow_graph.specs.FlowGraph.{FlowGraph, IsGraphOf}
use Rattle.cost_theory.specs.Graph.{with_trips}
use Rattle.graph_runs.specs.KeptRuns.{most_returns, IsKeptUpTo}
use Rattle.graph_runs.specs.RunTransitions.{returns_so}
use Rattle.bound_laws.specs.Turning.{with_bounds}
use Rattle.turn_laws.specs.Relating.{IsInputWithin}
use Rattle.loop_file.specs.declared.notes.LoopNote.{LoopNote}
use Rattle.loop_file.specs.Kept.{note_at, noted_loops}
use Rattle.loop_file.specs.Loops.{read_loops}
use Rattle.loop_forest.specs.Tree.{LoopView, IsTreeOf}
use Rattle.scale_sites.specs.Counters.{AreRefused}
use Rattle.loop_drafts.specs.declared.drafted.LoopDraft.{LoopDraft}
use Rattle.loop_drafts.specs.Pieces.{printed}
use Rattle.loop_drafts.specs.Bounds.{IsOpen}
use Rattle.loop_drafts.specs.Trusting.{IsTrustKept}
use Rattle.loop_drafts.specs.Shapes.{HaveOneShape}
use Rattle.loop_drafts.specs.Countable.{HaveOneCount}
use Rattle.loop_drafts.specs.Drafted.{filled_most, IsDrafted}

-- What a user makes of drafted notes: the loops that have no bound are given one, and the others stay as they are.
pub record AreFinished (drafted notes : List LoopNote) : Type 0 where
  pub size : length notes ≡ length drafted
  pub same : (k : ℕ) → k < length drafted → IsOpen (note_at drafted k) ⊎ (note_at notes k ≡ note_at drafted k)

abbrev pub AreBytes : List ℕ → Type 0
AreBytes bytes = All (λ x. x < 256) bytes

-- A run of the image, on an input that is as short as was told, if that was, in which no store that is trusted changes a word that is kept, and which is
-- kept by some bounds and least turns is kept by those of a finished draft, where each loop that the user gave a bound has one that is no less, and least
-- turns that are no more: no such run breaks a drafted bound, or drafted least turns, before it breaks a return address or what the user wrote.
abbrev pub DraftedBoundsAreKept : Type 0
DraftedBoundsAreKept = (file : List ℕ) (most : Option ℕ) (draft : LoopDraft) (original : Image) (drafted notes : List LoopNote) (levels : ℕ)
    (input : List ℕ) (bounds trips : ℕ → ℕ) (n : ℕ) →
    AreBytes file → IsDrafted file most (Ok draft) → image_of file ≡ Ok original →
    read_loops original (filled_most draft.pieces.items) ≡ Ok drafted → AreFinished drafted notes → AreBytes input →
    IsInputWithin most input → IsTrustKept original draft.trust levels input n →
    ((k : ℕ) → k < length notes → IsOpen (note_at drafted k) →
    (bounds k ≤ (note_at notes k).bound) × ((note_at notes k).at_least ≤ trips k)) →
    IsKeptUpTo original levels input (with_trips (with_bounds (noted_loops notes) bounds) trips) n →
    IsKeptUpTo original levels input (noted_loops notes) n

-- Where each loop has a drafted bound, the file as it is printed is a loop file that a run keeps if no store that is trusted changes a word that is kept,
-- its returns go back to their calls and its calls are not too deep.
abbrev pub DraftedFilesNeedReturns : Type 0
DraftedFilesNeedReturns = (file : List ℕ) (most : Option ℕ) (draft : LoopDraft) (original : Image) (levels : ℕ) (input : List ℕ) (n : ℕ) →
    AreBytes file → AreBytes input → IsInputWithin most input → IsDrafted file most (Ok draft) → image_of file ≡ Ok original →
    draft.unbounded ≡ 0 →
    draft.proved ≡ draft.loops → IsTrustKept original draft.trust levels input n →
    ((m : ℕ) → m ≤ n → (rs : List ℕ) × (returns_so (run_of original levels input m).steps ≡ Some rs) × (length rs ≤ most_returns)) →
    (notes : List LoopNote) × (read_loops original (printed draft.pieces.items) ≡ Ok notes) ×
    IsKeptUpTo original levels input (noted_loops notes) n

-- Where the draft says so of returns, each return of a run in which no store that is trusted changes a word that is kept goes back to its call, on each
-- input, however long, and calls are never too deep.
abbrev pub DraftedReturnsGoBack : Type 0
DraftedReturnsGoBack = (file : List ℕ) (most : Option ℕ) (draft : LoopDraft) (original : Image) (levels : ℕ) (input : List ℕ) (n : ℕ) →
    AreBytes file → AreBytes input → IsDrafted file most (Ok draft) → image_of file ≡ Ok original → draft.returns ≡ true →
    IsTrustKept original draft.trust levels input n → (rs : List ℕ) × (returns_so (run_of original levels input n).steps ≡ Some rs) × (length rs ≤ most_returns)

-- Where it does, and each loop has a drafted bound, the file as it is printed is a loop file that every such run keeps, on each input that is as
-- short as was told.
abbrev pub DraftedFilesAreKept : Type 0
DraftedFilesAreKept = (file : List ℕ) (most : Option ℕ) (draft : LoopDraft) (original : Image) → AreBytes file →
    IsDrafted file most (Ok draft) → image_of file ≡ Ok original →
    draft.unbounded ≡ 0 → draft.proved ≡ draft.loops → draft.returns ≡ true →
    (notes : List LoopNote) × (read_loops original (printed draft.pieces.items) ≡ Ok notes) ×
    ((levels : ℕ) (input : List ℕ) (n : ℕ) → AreBytes input → IsInputWithin most input → IsTrustKept original draft.trust levels input n →
    IsKeptUpTo original levels input (noted_loops notes) n)

-- What a draft counts can be counted, whatever bounds are written: where each part of the code that turns is a loop, notes with the headers and ranges of the
-- draft that count the same loops are refused over no graph of the program for what they count.
abbrev pub DraftedCountsAreTaken : Type 0
DraftedCountsAreTaken = (file : List ℕ) (most : Option ℕ) (draft : LoopDraft) (original : Image) (drafted notes : List LoopNote)
    (v : FlowGraph) (tree : LoopView) (refusal : Refusal) →
    IsDrafted file most (Ok draft) → image_of file ≡ Ok original → read_loops original (filled_most draft.pieces.items) ≡ Ok drafted →
    draft.aside ≡ 0 → HaveOneShape drafted notes → HaveOneCount drafted notes →
    IsGraphOf (text_of original) v → IsTreeOf v notes tree → AreRefused v tree refusal → ⊥
