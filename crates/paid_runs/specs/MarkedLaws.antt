-- Scaffold: the laws of stored images of kept runs, as statements for the contracts of functions.
use Rattle.std.specs.Prelude.{◌≡◌, ℕ, ◌%◌, ◌<◌, Bool, true, false, List, All, Some, Ok}
use Rattle.std.specs.List.{sum_by}
use Rattle.scale_base.specs.declared.stepping.Class.{Class}
use Rattle.scale_base.specs.Image.{Image, image_of}
use Rattle.scale_base.specs.Run.{Run}
use Rattle.cost_theory.specs.Graph.{Loops, is_back}
use Rattle.cost_theory.specs.Accepted.{AreWeights}
use Rattle.cost_theory.specs.Reached.{Reached, LeadsTo, Code}
use Rattle.cost_theory.specs.Steps as steps
use Rattle.code_text.specs.Text.{Text, text_of, is_text_address, kind_at}
use Rattle.code_text.specs.TextGraph.{text_graph}
use Rattle.graph_runs.specs.KeptSteps.{Carried, by_extents}
use Rattle.graph_runs.specs.KeptRuns.{kept_of, IsKeptRun}
use Rattle.graph_runs.specs.Laws.{IsProgramOf}
use Rattle.stub_writer.specs.Stubs.{Site}
use Rattle.stored_runs.specs.Marks.{extra_cycles, stored_cycles}
use Rattle.stored_runs.specs.Stubbed.{IsSafeSite, IsStubbed, StaysInText}
use Rattle.stored_runs.specs.Patched.{IsPatched}
use Rattle.paid_runs.specs.Shadows.{AreCountable}
use Rattle.paid_runs.specs.Counters.{AreCounterWords, AreCounted, IsKeptPatched}
use Rattle.paid_runs.specs.Marked.{stored_site_weights, extra_site_weights, AreMarked, AreLimits, IsKeptFollowed}

-- A kept run stays in the text.
abbrev pub KeptRunsStayInText : Type 0
KeptRunsStayInText = (file : List ℕ) (image : Image) (levels : ℕ) (input : List ℕ) (code : Code) (l : Loops) (extent : ℕ → ℕ → Bool) →
    image_of file ≡ Ok image → IsProgramOf (text_of image) code l extent →
    (n : ℕ) (c : Carried) → kept_of image levels input (by_extents l extent) n ≡ Some c → StaysInText image levels input n

-- The stored image follows each kept run of a program whose edges are marked, and its counters hold the counts of the loops that the run is in.
abbrev pub KeptRunsAreFollowed : Type 0
KeptRunsAreFollowed = (file : List ℕ) (image : Image) (levels : ℕ) (limits : ℕ → ℕ) (sites : List Site) (base start : ℕ) (stored : Image) →
    IsStubbed file image levels limits sites base start stored →
    (code : Code) (l : Loops) (extent : ℕ → ℕ → Bool) (counted : ℕ → Bool) (word : ℕ → ℕ) (costs : Class → ℕ) →
    IsProgramOf (text_of image) code l extent → AreCountable (text_graph (text_of image) code) l counted →
    AreMarked (text_of image) code l sites counted word → AreLimits l counted word limits →
    (input : List ℕ) (n : ℕ) (c : Carried) → kept_of image levels input (by_extents l extent) n ≡ Some c →
    IsKeptFollowed image stored levels sites start input code l counted word costs n c

-- The same of a patched image, whose stubs may stand anywhere and whose loops may have several counters.
abbrev pub KeptRunsArePatched : Type 0
KeptRunsArePatched = (image patched : Image) (levels : ℕ) (limits : ℕ → ℕ) (sites : List Site) (start : ℕ) →
    IsPatched image patched levels limits sites start →
    (code : Code) (l : Loops) (extent : ℕ → ℕ → Bool) (is_of : ℕ → ℕ → Bool) (costs : Class → ℕ) →
    IsProgramOf (text_of image) code l extent → AreCounterWords (text_graph (text_of image) code) l limits is_of →
    AreCounted (text_of image) code l sites is_of →
    (input : List ℕ) (n : ℕ) (c : Carried) → kept_of image levels input (by_extents l extent) n ≡ Some c →
    IsKeptPatched image patched levels sites start input code l is_of costs n c

-- The moves of a kept run cost under the stored weights what its steps cost with their stubs, and under the extra weights what the stubs add.
abbrev pub TransitionsCostStoredWeights : Type 0
TransitionsCostStoredWeights = (t : Text) (code : Code) (l : Loops) (sites : List Site) (r : Run) (c : Carried) (costs : Class → ℕ)
    (kept : IsKeptRun t code l costs r c) →
    steps.cycles (stored_site_weights t code costs sites) kept.moves ≡ sum_by (stored_cycles costs sites) r.steps

abbrev pub TransitionsCostExtraWeights : Type 0
TransitionsCostExtraWeights = (t : Text) (code : Code) (l : Loops) (sites : List Site) (r : Run) (c : Carried) (costs : Class → ℕ)
    (kept : IsKeptRun t code l costs r c) →
    steps.cycles (extra_site_weights t code costs sites) kept.moves ≡ sum_by (extra_cycles costs sites) r.steps

-- What a reached word leads to is a word of the text, at a multiple of 4.
abbrev pub TargetsAreWords : Type 0
TargetsAreWords = (t : Text) (code : Code) (l : Loops) (extent : ℕ → ℕ → Bool) → IsProgramOf t code l extent → (f v to : ℕ) →
    Reached (kind_at t) t.entry f v → LeadsTo (kind_at t v) v to → (to % 4 ≡ 0) × (is_text_address t to ≡ true)

-- Loops can be counted where no edge by which a call comes back is a back edge of one.
abbrev pub LoopsAreCountable : Type 0
LoopsAreCountable = (t : Text) (code : Code) (l : Loops) (extent : ℕ → ℕ → Bool) (counted : ℕ → Bool) → IsProgramOf t code l extent →
    ((k e f v : ℕ) → k < l.loops → counted k ≡ true → e < (text_graph t code).edges → (text_graph t code).callee e ≡ Some f →
    (text_graph t code).target e ≡ Some v → is_back (text_graph t code) l k e ≡ false) → AreCountable (text_graph t code) l counted

-- The stored weights and the extra weights give all edges of one call the same, since no marked instruction is a call.
abbrev pub StoredWeightsAreWeights : Type 0
StoredWeightsAreWeights = (image : Image) (levels : ℕ) (limits : ℕ → ℕ) (sites : List Site) (code : Code) (costs : Class → ℕ) →
    All (IsSafeSite image levels limits) sites →
    AreWeights (text_graph (text_of image) code) (stored_site_weights (text_of image) code costs sites) ×
    AreWeights (text_graph (text_of image) code) (extra_site_weights (text_of image) code costs sites)

-- The same of a patched image.
abbrev pub PatchedWeightsAreWeights : Type 0
PatchedWeightsAreWeights = (image patched : Image) (levels : ℕ) (limits : ℕ → ℕ) (sites : List Site) (start : ℕ) →
    IsPatched image patched levels limits sites start → (code : Code) (costs : Class → ℕ) →
    AreWeights (text_graph (text_of image) code) (stored_site_weights (text_of image) code costs sites) ×
    AreWeights (text_graph (text_of image) code) (extra_site_weights (text_of image) code costs sites)
