-- Scaffold: the laws of paid runs, as statements for the contracts of functions.
use Rattle.std.specs.Prelude.{◌≡◌, ℕ, ◌+◌, ◌*◌, ◌<◌, ◌≤◌, Bool, List, length, Some}
use Rattle.std.specs.List.{sum_by}
use Rattle.scale_base.specs.Image.{Image}
use Rattle.scale_base.specs.Run.{HasExited, run_of}
use Rattle.power_model.specs.Numbers.{PowerModel, IsPowerModel}
use Rattle.power_model.specs.Price.{price, held_energy}
use Rattle.cost_theory.specs.Graph.{Loops}
use Rattle.cost_theory.specs.Laws.{IsAnalyzed}
use Rattle.cost_theory.specs.Worst.{Numbers}
use Rattle.cycle_laws.specs.Charged.{Charged, AreCharged}
use Rattle.cost_theory.specs.Reached.{Code}
use Rattle.code_text.specs.Text.{Text, text_of}
use Rattle.code_text.specs.TextGraph.{text_graph}
use Rattle.graph_runs.specs.KeptSteps.{Carried, by_extents}
use Rattle.graph_runs.specs.Laws.{IsProgramOf}
use Rattle.stub_writer.specs.Stubs.{Site}
use Rattle.paid_runs.specs.Shadows.{AreCountable}
use Rattle.paid_runs.specs.Marked.{extra_site_weights, AreMarked, IsKeptFollowed}
use Rattle.graph_runs.specs.KeptRuns.{kept_of}
use Rattle.power_model.specs.Switches.{period, costs_of}
use Rattle.paid_runs.specs.Timely.{weights_of, AreTables, AreTablesOf, IsPaidRun}
use Rattle.paid_runs.specs.Tabled.{AreTabledOf, AreTabledBy}
use Rattle.paid_runs.specs.Budgets.{AreTablesWithin, IsInBudget}
use Rattle.paid_runs.specs.Counters.{by_words}
use Rattle.level_tables.specs.Budgets.{AreBudgets, meets_in_budget}
use Rattle.paid_runs.specs.Patched.{IsTuned, IsTunedRun, IsBudgeted}

-- The stored run of each kept run is paid, where the worst cycles at the starting level are in time.
abbrev pub StoredRunsArePaid : Type 0
StoredRunsArePaid = (power : PowerModel) → IsPowerModel power → (image stored : Image) (sites : List Site) (start : ℕ) (code : Code)
    (l : Loops) (extent : ℕ → ℕ → Bool) (counted : ℕ → Bool) (word : ℕ → ℕ) → IsProgramOf (text_of image) code l extent →
    AreCountable (text_graph (text_of image) code) l counted → AreMarked (text_of image) code l sites counted word →
    (n : Numbers) (least : Charged) → IsAnalyzed (text_graph (text_of image) code) l extent
    (weights_of power (text_of image) code sites) n →
    AreCharged (text_graph (text_of image) code) l (weights_of power (text_of image) code sites) least →
    AreTables power (text_of image) code l sites counted word n least → start < length power.levels →
    n.worst 0 * period power start ≤ power.deadline →
    (input : List ℕ) (steps : ℕ) (c : Carried) (f : IsKeptFollowed image stored (length power.levels) sites start input code l counted word
    (costs_of power) steps c) →
    IsPaidRun power (text_of image) code l sites start n f.kept.moves (run_of stored (length power.levels) input f.followed.after).steps

-- An exited run takes no more energy than its own cycles at the starting level.
abbrev pub StoredRunsSaveEnergy : Type 0
StoredRunsSaveEnergy = (power : PowerModel) → IsPowerModel power → (image stored : Image) (sites : List Site) (start : ℕ) (code : Code)
    (l : Loops) (extent : ℕ → ℕ → Bool) (counted : ℕ → Bool) (word : ℕ → ℕ) → IsProgramOf (text_of image) code l extent →
    AreCountable (text_graph (text_of image) code) l counted → AreMarked (text_of image) code l sites counted word →
    (n : Numbers) (least : Charged) → IsAnalyzed (text_graph (text_of image) code) l extent
    (weights_of power (text_of image) code sites) n →
    AreCharged (text_graph (text_of image) code) l (weights_of power (text_of image) code sites) least →
    AreTables power (text_of image) code l sites counted word n least → start < length power.levels →
    n.worst 0 * period power start ≤ power.deadline →
    (input : List ℕ) (steps status : ℕ) (c : Carried) (f : IsKeptFollowed image stored (length power.levels) sites start input code l
    counted word (costs_of power) steps c) → (run_of image (length power.levels) input steps).standing ≡ HasExited status →
    let paid = price power start (run_of stored (length power.levels) input f.followed.after).steps in paid.energy ≤ held_energy power paid

-- The stored run takes at most so many cycles and steps more than the original as the worst cycles are under the extra weights.
abbrev pub StubsAreBounded : Type 0
StubsAreBounded = (power : PowerModel) → IsPowerModel power → (image stored : Image) (sites : List Site) (start : ℕ) (code : Code)
    (l : Loops) (extent : ℕ → ℕ → Bool) (counted : ℕ → Bool) (word : ℕ → ℕ) (n : Numbers) →
    IsAnalyzed (text_graph (text_of image) code) l extent (extra_site_weights (text_of image) code (costs_of power) sites) n →
    (input : List ℕ) (steps : ℕ) (c : Carried) (f : IsKeptFollowed image stored (length power.levels) sites start input code l counted word
    (costs_of power) steps c) →
    let original = (run_of image (length power.levels) input steps).steps in
    let run = (run_of stored (length power.levels) input f.followed.after).steps in
    (length original ≤ length run) × (length run ≤ length original + n.worst 0) ×
    (sum_by (λ x. costs_of power x.class) run ≤ sum_by (λ x. costs_of power x.class) original + n.worst 0)

-- Every kept run of a tuned image is safe.
abbrev pub TunedRunsAreSafe : Type 0
TunedRunsAreSafe = (power : PowerModel) (image patched : Image) (limits : ℕ → ℕ) (sites : List Site) (start : ℕ)
    (code : Code) (l : Loops) (extent : ℕ → ℕ → Bool) (is_of : ℕ → ℕ → Bool) (n : Numbers) (least : Charged) (more : Numbers) →
    IsTuned power image patched limits sites start code l extent is_of n least more →
    (input : List ℕ) (steps : ℕ) (c : Carried) → kept_of image (length power.levels) input (by_extents l extent) steps ≡ Some c →
    IsTunedRun power image patched sites start code l is_of n more input steps c

-- Tables whose entries meet their tests keep a run in time and pay.
abbrev pub TablesOfKeepTime : Type 0
TablesOfKeepTime = (power : PowerModel) (t : Text) (code : Code) (l : Loops) (sites : List Site) (is_of : ℕ → ℕ → Bool) (n : Numbers)
    (least : Charged) →
    AreTabledOf power t code l sites is_of n least → AreTablesOf power t code l sites is_of n least

-- ---- budgets

-- Every kept run of an image whose tables keep budgets is safe, and within the budget of its level behind each step of the original.
abbrev pub BudgetedRunsAreSafe : Type 0
BudgetedRunsAreSafe = (power : PowerModel) (budget : ℕ → ℕ) (image patched : Image) (limits : ℕ → ℕ) (sites : List Site) (start : ℕ)
    (code : Code) (l : Loops) (extent : ℕ → ℕ → Bool) (is_of : ℕ → ℕ → Bool) (n : Numbers) (least : Charged) (more : Numbers) →
    IsBudgeted power budget image patched limits sites start code l extent is_of n least more →
    (input : List ℕ) (steps : ℕ) (c : Carried) → kept_of image (length power.levels) input (by_extents l extent) steps ≡ Some c →
    (r : IsTunedRun power image patched sites start code l is_of n more input steps c)
    × IsInBudget power budget (text_of image) code l sites start n r.followed.kept.moves
    (run_of patched (length power.levels) input r.followed.followed.after).steps

-- The stored run of each kept run is paid and within its budgets, where each counted loop has one word.
abbrev pub StoredRunsKeepBudgets : Type 0
StoredRunsKeepBudgets = (power : PowerModel) → IsPowerModel power → (budget : ℕ → ℕ) (image stored : Image) (sites : List Site) (start : ℕ)
    (code : Code) (l : Loops) (extent : ℕ → ℕ → Bool) (counted : ℕ → Bool) (word : ℕ → ℕ) → IsProgramOf (text_of image) code l extent →
    AreCountable (text_graph (text_of image) code) l counted → AreMarked (text_of image) code l sites counted word →
    (n : Numbers) (least : Charged) → IsAnalyzed (text_graph (text_of image) code) l extent
    (weights_of power (text_of image) code sites) n →
    AreCharged (text_graph (text_of image) code) l (weights_of power (text_of image) code sites) least →
    AreTablesWithin power budget (text_of image) code l sites (by_words l counted word) n least → start < length power.levels →
    AreBudgets power budget start (n.worst 0) →
    (input : List ℕ) (steps : ℕ) (c : Carried) (f : IsKeptFollowed image stored (length power.levels) sites start input code l counted word
    (costs_of power) steps c) →
    IsPaidRun power (text_of image) code l sites start n f.kept.moves (run_of stored (length power.levels) input f.followed.after).steps
    × IsInBudget power budget (text_of image) code l sites start n f.kept.moves
    (run_of stored (length power.levels) input f.followed.after).steps

-- Tables whose entries meet the test of budgets keep a run within them and pay.
abbrev pub TablesKeepBudgets : Type 0
TablesKeepBudgets = (power : PowerModel) (budget : ℕ → ℕ) (t : Text) (code : Code) (l : Loops) (sites : List Site) (is_of : ℕ → ℕ → Bool)
    (n : Numbers) (least : Charged) →
    AreTabledBy power (meets_in_budget power budget) t code l sites is_of n least →
    AreTablesWithin power budget t code l sites is_of n least

-- A tuned image is one whose budgets are all the deadline.
abbrev pub TunedImagesAreBudgeted : Type 0
TunedImagesAreBudgeted = (power : PowerModel) (image patched : Image) (limits : ℕ → ℕ) (sites : List Site) (start : ℕ)
    (code : Code) (l : Loops) (extent : ℕ → ℕ → Bool) (is_of : ℕ → ℕ → Bool) (n : Numbers) (least : Charged) (more : Numbers) →
    (IsTuned power image patched limits sites start code l extent is_of n least more →
    IsBudgeted power (λ i. power.deadline) image patched limits sites start code l extent is_of n least more)
    × (IsBudgeted power (λ i. power.deadline) image patched limits sites start code l extent is_of n least more →
    IsTuned power image patched limits sites start code l extent is_of n least more)
