-- Scaffold: the law of rewritten images, as a statement for the contract of a function.
use Rattle.std.specs.Prelude.{◌≡◌, ℕ, ◌<◌, ◌≤◌, Bool, true, List, length, Some, None, Ok}
use Rattle.scale_base.specs.declared.limits.TheConstants.{CYCLE_LIMIT, IMAGE_LIMIT}
use Rattle.scale_base.specs.declared.ranges.Keyed.{Keyed}
use Rattle.scale_base.specs.Image.{Image, image_of}
use Rattle.power_model.specs.Numbers.{PowerModel, IsPowerModel}
use Rattle.power_model.specs.Slowest.{slowest_of}
use Rattle.loop_file.specs.declared.notes.LoopNote.{LoopNote}
use Rattle.cost_theory.specs.Worst.{Numbers}
use Rattle.cycle_laws.specs.Charged.{Charged}
use Rattle.flow_graph.specs.FlowGraph.{FlowGraph}
use Rattle.loop_forest.specs.Tree.{LoopView}
use Rattle.stub_writer.specs.Stubs.{Site, out_of_reach}
use Rattle.level_tables.specs.declared.edge_numbers.EdgeNumbers.{EdgeNumbers}
use Rattle.level_tables.specs.Budgets.{AreBudgets, meets_in_budget}
use Rattle.rewritten_runs.specs.Stubs.{Rule, by_slack, by_choice, IsWeighedBy, IsWeighed, HasStubsBy, HasStubs, rewritten_file, stored_weights, marks_by}
use Rattle.rewritten_runs.specs.Promise.{KeepsThePromise}
use Rattle.rewritten_runs.specs.Followed.{FollowsInTime}

-- A rewritten file is an image with the original's text ranges and with a key that starts it at this level. It keeps the promise and follows the original in time.
pub record IsSafelyRewrittenBy (power : PowerModel) (image : Image) (notes : List LoopNote) (v : FlowGraph) (t : LoopView) (rule : Rule)
    (plain stored : Numbers) (bound start : ℕ) (file : List ℕ) : Type 0 where
  pub rewritten : Image
  pub is : image_of file ≡ Ok rewritten
  pub same_text : rewritten.text ≡ image.text
  pub key : Keyed
  pub keyed : rewritten.keyed_segment ≡ Some key
  pub starts : key.start ≡ start
  pub promise : KeepsThePromise power image notes rewritten bound
  pub follows : FollowsInTime power image rewritten notes v t (stored_weights power image v (marks_by v t rule)) plain stored bound

-- by the rule of slacks
abbrev pub IsSafelyRewritten : PowerModel → Image → List LoopNote → FlowGraph → LoopView → (plain stored : Numbers) → (bound start : ℕ) →
    (file : List ℕ) → Type 0
IsSafelyRewritten power image notes v t plain stored bound start file = IsSafelyRewrittenBy power image notes v t
    (by_slack power image v t plain) plain stored bound start file

-- Where a program's worst cycles under the stored weights are in time from a starting level on, and its stubs are in reach.
abbrev pub RewrittenImagesFollow : Type 0
RewrittenImagesFollow = (power : PowerModel) → IsPowerModel power → (file : List ℕ) (image : Image) (notes : List LoopNote) (v : FlowGraph)
    (t : LoopView) (plain stored extra : Numbers) (least : Charged) (sites : List Site) (base start : ℕ)
    → image_of file ≡ Ok image → image.keyed_segment ≡ None → length file ≤ IMAGE_LIMIT → IsWeighed power image notes v t plain stored →
    stored.worst 0 ≤ CYCLE_LIMIT → slowest_of power (stored.worst 0) ≡ Some start
    → HasStubs power image v t plain stored extra least sites base → out_of_reach base sites ≡ None
    → IsSafelyRewritten power image notes v t plain stored (extra.worst 0) start (rewritten_file image sites base start)

-- The test of a rule is at least as strong as that of budgets.
abbrev pub KeepsBudgets : PowerModel → (budget : ℕ → ℕ) → Rule → Type 0
KeepsBudgets power budget rule = (told : EdgeNumbers) (i j : ℕ) → rule.test told i j ≡ true → meets_in_budget power budget told i j ≡ true

-- The same for any rule that keeps budgets, from any level within whose budget the worst cycles under the stored weights are.
abbrev pub BudgetedImagesFollow : Type 0
BudgetedImagesFollow = (power : PowerModel) → IsPowerModel power → (budget : ℕ → ℕ) (rule : Rule) → KeepsBudgets power budget rule →
    (file : List ℕ) (image : Image) (notes : List LoopNote) (v : FlowGraph) (t : LoopView) (plain stored extra : Numbers) (least : Charged)
    (sites : List Site) (base start : ℕ)
    → image_of file ≡ Ok image → image.keyed_segment ≡ None → length file ≤ IMAGE_LIMIT
    → IsWeighedBy power image notes v t rule plain stored →
    start < length power.levels → AreBudgets power budget start (stored.worst 0)
    → HasStubsBy power image v t rule stored extra least sites base → out_of_reach base sites ≡ None
    → IsSafelyRewrittenBy power image notes v t rule plain stored (extra.worst 0) start (rewritten_file image sites base start)

-- So for any chosen edges of branches and any budgets.
abbrev pub ChosenImagesFollow : Type 0
ChosenImagesFollow = (power : PowerModel) → IsPowerModel power → (budget : ℕ → ℕ) (chosen : ℕ → Bool) →
    (file : List ℕ) (image : Image) (notes : List LoopNote) (v : FlowGraph) (t : LoopView) (plain stored extra : Numbers) (least : Charged)
    (sites : List Site) (base start : ℕ)
    → image_of file ≡ Ok image → image.keyed_segment ≡ None → length file ≤ IMAGE_LIMIT →
    IsWeighedBy power image notes v t (by_choice power budget chosen) plain stored → start < length power.levels →
    AreBudgets power budget start (stored.worst 0)
    → HasStubsBy power image v t (by_choice power budget chosen) stored extra least sites base → out_of_reach base sites ≡ None
    → IsSafelyRewrittenBy power image notes v t (by_choice power budget chosen) plain stored (extra.worst 0) start
    (rewritten_file image sites base start)
