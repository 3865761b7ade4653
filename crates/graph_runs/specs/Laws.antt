-- Scaffold: the laws of runs over the graph of reached code, as statements for the contracts of functions.
use Rattle.std.specs.Prelude.{◌≡◌, ◌↔◌, ℕ, ◌+◌, ◌<◌, ◌≤◌, Bool, List, Some, Ok, option_and_then}
use Rattle.std.specs.List.{sum_by}
use Rattle.scale_base.specs.declared.stepping.Class.{Class}
use Rattle.scale_base.specs.Image.{Image, image_of, text_word}
use Rattle.scale_base.specs.Reading.{instr_of}
use Rattle.scale_base.specs.State.{Setting, State}
use Rattle.scale_base.specs.Run.{Run, GoesOn, run, run_of, setting_of, start_of}
use Rattle.cost_theory.specs.Graph.{Loops, with_trips}
use Rattle.cost_theory.specs.Accepted.{AreAccepted, HasNoRecursion, HaveWholeExtents}
use Rattle.cost_theory.specs.Worst.{Numbers, AreNumbers}
use Rattle.cost_theory.specs.Steps.{cycles_left}
use Rattle.cost_theory.specs.Reached.{Code, IsCodeOf, HasNoBadWord}
use Rattle.code_text.specs.Text.{Text, text_of, instr_at, known, IsPutBefore, AreApart, word_kind, kind_at}
use Rattle.graph_runs.specs.TextStates.{IsTextOf, IsOverText}
use Rattle.code_text.specs.EdgeCosts.{weights}
use Rattle.graph_runs.specs.RunTransitions.{after_transitions, returns_so, IsRunOf}
use Rattle.code_text.specs.TextGraph.{text_graph, IsReachedCode}
use Rattle.graph_runs.specs.KeptSteps.{Carried, by_extents}
use Rattle.graph_runs.specs.KeptRuns.{kept_at, kept_of, IsKeptRun}

-- ---- the hypotheses

-- A program: its reached code calls no function from within itself, its loops are accepted, and one that has to turn has no nodes in its
-- extent but those of its body.
pub record IsProgramOf (t : Text) (code : Code) (l : Loops) (extent : ℕ → ℕ → Bool) : Type 0 where
  pub reached : IsReachedCode t code
  pub calls : HasNoRecursion (text_graph t code)
  pub loops : AreAccepted (text_graph t code) l extent
  pub whole : HaveWholeExtents (text_graph t code) l extent

-- a state at the entry of the text, on the machine of the setting
pub record IsStartOver (t : Text) (env : Setting) (s : State) : Type 0 where
  pub text : IsTextOf t env
  pub state : IsOverText t s
  pub entry : s.pc ≡ t.entry

-- the cycles of the completed steps, by what a step of each class costs
abbrev pub run_cycles : (Class → ℕ) → Run → ℕ
run_cycles costs r = sum_by (λ x. costs x.class) r.steps

-- ---- the laws

-- A run whose returns go back to their calls is a list of transitions over the graph, at the cost of its steps.
abbrev pub RunsAreTransitions : Type 0
RunsAreTransitions = (t : Text) (env : Setting) (s : State) (code : Code) (l : Loops) (costs : Class → ℕ) → IsStartOver t env s →
    IsReachedCode t code →
    (n : ℕ) (rs : List ℕ) → returns_so (run env s n).steps ≡ Some rs → IsRunOf t code l costs (run env s n) rs

-- A kept run is a list of kept transitions over the graph, at the cost of its steps.
abbrev pub KeptRunsAreKeptTransitions : Type 0
KeptRunsAreKeptTransitions = (t : Text) (env : Setting) (s : State) (code : Code) (l : Loops) (extent : ℕ → ℕ → Bool) (costs : Class → ℕ) →
    IsStartOver t env s → IsProgramOf t code l extent →
    (n : ℕ) (c : Carried) → kept_at env s (by_extents l extent) n ≡ Some c → IsKeptRun t code l costs (run env s n) c

-- A run that is kept where loops have to turn so often is kept, with the same counts, where they have to turn less often.
abbrev pub KeptRunsAreKeptByLess : Type 0
KeptRunsAreKeptByLess = (env : Setting) (s : State) (l : Loops) (trips : ℕ → ℕ) → ((k : ℕ) → k < l.loops → trips k ≤ l.least_trips k) →
    (n : ℕ) (c : Carried) → kept_at env s l n ≡ Some c → kept_at env s (with_trips l trips) n ≡ Some c

-- So it costs at most the worst cycles of the program's entry, whatever the costs of the classes.
abbrev pub KeptRunsAreBelow : Type 0
KeptRunsAreBelow = (t : Text) (env : Setting) (s : State) (code : Code) (l : Loops) (extent : ℕ → ℕ → Bool) (costs : Class → ℕ)
    (nums : Numbers) → IsStartOver t env s → IsProgramOf t code l extent →
    AreNumbers (text_graph t code) l (weights t code costs) nums → (n : ℕ) (c : Carried) → kept_at env s (by_extents l extent) n ≡ Some c →
    run_cycles costs (run env s n) ≤ nums.worst 0

-- After a kept run, its cycles and those that are left where its transitions lead are at most the worst cycles.
abbrev pub CyclesLeftAreBelow : Type 0
CyclesLeftAreBelow = (t : Text) (code : Code) (l : Loops) (extent : ℕ → ℕ → Bool) (costs : Class → ℕ) (nums : Numbers) →
    IsProgramOf t code l extent →
    AreNumbers (text_graph t code) l (weights t code costs) nums → (r : Run) (c : Carried) (kept : IsKeptRun t code l costs r c) →
    run_cycles costs r + cycles_left (text_graph t code) l (weights t code costs) nums (after_transitions t code l kept.moves) ≤ nums.worst
    0

-- Where each class costs a cycle at least, a kept run that goes on has taken at most so many steps: so each run that stays kept ends.
abbrev pub KeptRunsEnd : Type 0
KeptRunsEnd = (t : Text) (env : Setting) (s : State) (code : Code) (l : Loops) (extent : ℕ → ℕ → Bool) (costs : Class → ℕ) (nums : Numbers)
    → IsStartOver t env s → IsProgramOf t code l extent →
    AreNumbers (text_graph t code) l (weights t code costs) nums → ((class : Class) → 1 ≤ costs class) →
    (n : ℕ) (c : Carried) → kept_at env s (by_extents l extent) n ≡ Some c → (run env s n).standing ≡ GoesOn → n ≤ nums.worst 0

-- ---- the laws over images

-- The run of an image starts over its text, whatever the machine's levels and the input.
abbrev pub ImagesStartOver : Type 0
ImagesStartOver = (file : List ℕ) (image : Image) (levels : ℕ) (input : List ℕ) → image_of file ≡ Ok image →
    IsStartOver (text_of image) (setting_of image levels input) (start_of image levels)

-- A kept run of an image is a list of kept transitions over the graph of its text.
abbrev pub ImageRunsAreKeptTransitions : Type 0
ImageRunsAreKeptTransitions = (file : List ℕ) (image : Image) (levels : ℕ) (input : List ℕ) (code : Code) (l : Loops)
    (extent : ℕ → ℕ → Bool) (costs : Class → ℕ) → image_of file ≡ Ok image →
    IsProgramOf (text_of image) code l extent → (n : ℕ) (c : Carried) → kept_of image levels input (by_extents l extent) n ≡ Some c →
    IsKeptRun (text_of image) code l costs (run_of image levels input n) c

-- It costs at most the worst cycles of the entry.
abbrev pub ImageRunsAreBelow : Type 0
ImageRunsAreBelow = (file : List ℕ) (image : Image) (levels : ℕ) (input : List ℕ) (code : Code) (l : Loops) (extent : ℕ → ℕ → Bool)
    (costs : Class → ℕ) (nums : Numbers) → image_of file ≡ Ok image →
    IsProgramOf (text_of image) code l extent → AreNumbers (text_graph (text_of image) code) l (weights (text_of image) code costs) nums →
    (n : ℕ) (c : Carried) → kept_of image levels input (by_extents l extent) n ≡ Some c →
    run_cycles costs (run_of image levels input n) ≤ nums.worst 0

-- Where each class costs a cycle at least, it goes on for at most so many steps.
abbrev pub ImageRunsEnd : Type 0
ImageRunsEnd = (file : List ℕ) (image : Image) (levels : ℕ) (input : List ℕ) (code : Code) (l : Loops) (extent : ℕ → ℕ → Bool)
    (costs : Class → ℕ) (nums : Numbers) → image_of file ≡ Ok image →
    IsProgramOf (text_of image) code l extent → AreNumbers (text_graph (text_of image) code) l (weights (text_of image) code costs) nums →
    ((class : Class) → 1 ≤ costs class) →
    (n : ℕ) (c : Carried) → kept_of image levels input (by_extents l extent) n ≡ Some c → (run_of image levels input n).standing ≡ GoesOn →
    n ≤ nums.worst 0
