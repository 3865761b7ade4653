-- The law of bounds in versioned images.
use Rattle.std.specs.Prelude.{◌≡◌, ℕ, ◌^◌, ◌<◌, ◌≤◌, ◌⊎◌, All, List, Some}
use Rattle.scale_base.specs.Image.{Image}
use Rattle.scale_base.specs.Run.{HasExited, run_of}
use Rattle.cost_theory.specs.Graph.{Loops}
use Rattle.cost_theory.specs.Reached.{Code}
use Rattle.code_text.specs.Text.{text_of}
use Rattle.code_text.specs.TextGraph.{text_graph, IsReachedCode}
use Rattle.graph_runs.specs.KeptSteps.{Carried}
use Rattle.graph_runs.specs.KeptRuns.{kept_of, IsKeptUpTo}
use Rattle.bound_laws.specs.Turning.{unasked}
use Rattle.loop_versions.specs.declared.pieces.Piece.{Piece}
use Rattle.loop_versions.specs.declared.pieces.Site.{Site}
use Rattle.loop_versions.specs.Made.{IsVersioned}
use Rattle.loop_versions.specs.Follows.{StaysOutside, FollowsVersioned}
use Rattle.version_laws.specs.Exits.{ExitsAlike}
use Rattle.copy_bounds.specs.Copies.{KeepsOpenCalls, CopiesLoop}
use Rattle.copy_bounds.specs.Meanings.{meaning}

-- As long as the returns of a run of an image go back to their calls, loop k turns no more often than its bound allows.
abbrev pub IsBoundKept : Image → (levels : ℕ) (input : List ℕ) → Loops → ℕ → Type 0
IsBoundKept image levels input l k = (n : ℕ) (d : Carried) → kept_of image levels input (unasked l) n ≡ Some d → d.counts k ≤ l.bound k

-- What is asked of the loops of a versioned image: none has to turn before it is left, and the bound of each is kept by its runs, or is no
-- less than that of a loop that it copies.
pub record AreCovered (versioned : Image) (pieces : List Piece) (sites : List Site) (base levels : ℕ) (input : List ℕ) (code : Code)
    (old l : Loops) : Type 0 where
  pub reached : IsReachedCode (text_of versioned) code
  pub calls : KeepsOpenCalls (meaning pieces sites base) (text_graph (text_of versioned) code)
  pub late : (k : ℕ) → k < l.loops → l.least_trips k ≡ 0
  pub each : (k : ℕ) → k < l.loops → IsBoundKept versioned levels input l k ⊎
      CopiesLoop (meaning pieces sites base) (text_of versioned) (text_graph (text_of versioned) code) old l k

-- Where the run of the original is kept, that of the versioned image follows it, and is kept.
abbrev pub VersionedRunsKeepBounds : Type 0
VersionedRunsKeepBounds =
    (image versioned : Image) (pieces : List Piece) (sites : List Site) (base levels : ℕ) (input : List ℕ) (code : Code) (old l : Loops)
    (n : ℕ) → IsVersioned image versioned pieces sites base → All (λ b. b < 2 ^ 8) input →
    StaysOutside image versioned pieces sites base levels input n →
    AreCovered versioned pieces sites base levels input code old l → IsKeptUpTo image levels input old n →
    (m : ℕ) × FollowsVersioned image versioned pieces sites base (run_of image levels input n) (run_of versioned levels input m) ×
    IsKeptUpTo versioned levels input l m

-- So where that one exits, so does this one, at the end of a kept run.
abbrev pub VersionedExitsAreKept : Type 0
VersionedExitsAreKept =
    (image versioned : Image) (pieces : List Piece) (sites : List Site) (base levels : ℕ) (input : List ℕ) (code : Code) (old l : Loops)
    (n status : ℕ) → IsVersioned image versioned pieces sites base → All (λ b. b < 2 ^ 8) input →
    AreCovered versioned pieces sites base levels input code old l → IsKeptUpTo image levels input old n →
    (run_of image levels input n).standing ≡ HasExited status →
    (m : ℕ) × ExitsAlike image versioned pieces sites base status (run_of image levels input n) (run_of versioned levels input m) ×
    IsKeptUpTo versioned levels input l m
