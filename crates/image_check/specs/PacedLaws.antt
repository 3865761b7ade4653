-- Scaffold: the laws of paced images, as statements for the contract of a function.
use Rattle.std.specs.Prelude.{◌≡◌, ℕ, ◌^◌, ◌<◌, ◌≤◌, Bool, List, length, Some, Ok, None}
use Rattle.scale_base.specs.declared.limits.TheConstants.{CYCLE_LIMIT}
use Rattle.scale_base.specs.Image.{Image, image_of, loaded_byte}
use Rattle.scale_base.specs.Run.{run_of, starting_level}
use Rattle.power_model.specs.Numbers.{PowerModel, IsPowerModel}
use Rattle.cost_theory.specs.Graph.{Loops}
use Rattle.cycle_laws.specs.Charged.{Charged}
use Rattle.cost_theory.specs.Reached.{Code}
use Rattle.cost_theory.specs.Worst.{Numbers}
use Rattle.code_text.specs.Text.{text_of}
use Rattle.graph_runs.specs.Laws.{IsProgramOf}
use Rattle.graph_runs.specs.KeptSteps.{Carried, by_extents}
use Rattle.graph_runs.specs.KeptRuns.{kept_of}
use Rattle.paid_runs.specs.Budgets.{IsInBudget}
use Rattle.paid_runs.specs.Patched.{IsBudgeted, IsTunedRun}
use Rattle.foreign_scan.specs.Scanned.{Found}
use Rattle.loop_file.specs.declared.notes.LoopNote.{LoopNote}
use Rattle.loop_file.specs.Kept.{noted_loops}
use Rattle.flow_graph.specs.FlowGraph.{FlowGraph, IsGraphOf}
use Rattle.loop_forest.specs.Tree.{LoopView, loops, IsTreeOf}
use Rattle.rewritten_runs.specs.Promise.{KeepsThePromise}
use Rattle.image_check.specs.Laws.{is_owner}
use Rattle.image_check.specs.Paced.{IsPacedImage}
use Rattle.image_check.specs.Safe.{Owner, owner_bound, sites_of, IsSafeImage}

-- A safe image is a paced one whose budgets are all the deadline; and such a one is safe, where its worst cycles are in range.
abbrev pub SafeImagesArePaced : Type 0
SafeImagesArePaced = (power : PowerModel) (original foreign : Image) (code : Code) (l : Loops) (extent : ℕ → ℕ → Bool) (found : Found)
    (owner : Owner) (n : Numbers) (least : Charged) (more : Numbers) →
    (IsSafeImage power original foreign code l extent found owner n least more →
    IsPacedImage power (λ i. power.deadline) original foreign code l extent found owner n least more)
    × (IsPacedImage power (λ i. power.deadline) original foreign code l extent found owner n least more → n.worst 0 ≤ CYCLE_LIMIT →
    IsSafeImage power original foreign code l extent found owner n least more)

-- A paced image is one whose tables keep budgets: so each kept run of it is safe.
abbrev pub PacedImagesAreBudgeted : Type 0
PacedImagesAreBudgeted = (power : PowerModel) → IsPowerModel power → (budget : ℕ → ℕ) (original_file file : List ℕ)
    (original foreign : Image) → image_of original_file ≡ Ok original → image_of file ≡ Ok foreign →
    ((a : ℕ) → loaded_byte foreign a < 256) → original.keyed_segment ≡ None →
    (code : Code) (l : Loops) (extent : ℕ → ℕ → Bool) → IsProgramOf (text_of original) code l extent →
    ((k : ℕ) → k < l.loops → l.bound k ≤ 2 ^ 31) →
    (found : Found) (owner : Owner) (n : Numbers) (least : Charged) (more : Numbers) →
    IsPacedImage power budget original foreign code l extent found owner n least more →
    IsBudgeted power budget original foreign (λ c. owner_bound l (owner c)) (sites_of original foreign code l owner found)
    (starting_level (length power.levels) foreign.keyed_segment) code l extent (is_owner owner) n least more

-- So every kept run of a paced image is safe, and within the budget of its level behind each step of the original.
abbrev pub PacedImagesKeepRuns : Type 0
PacedImagesKeepRuns = (power : PowerModel) → IsPowerModel power → (budget : ℕ → ℕ) (original_file file : List ℕ) (original foreign : Image)
    → image_of original_file ≡ Ok original → image_of file ≡ Ok foreign → ((a : ℕ) → loaded_byte foreign a < 256) →
    original.keyed_segment ≡ None →
    (code : Code) (l : Loops) (extent : ℕ → ℕ → Bool) → IsProgramOf (text_of original) code l extent →
    ((k : ℕ) → k < l.loops → l.bound k ≤ 2 ^ 31) →
    (found : Found) (owner : Owner) (n : Numbers) (least : Charged) (more : Numbers) →
    IsPacedImage power budget original foreign code l extent found owner n least more →
    (input : List ℕ) (steps : ℕ) (c : Carried) → kept_of original (length power.levels) input (by_extents l extent) steps ≡ Some c →
    (r : IsTunedRun power original foreign (sites_of original foreign code l owner found)
    (starting_level (length power.levels) foreign.keyed_segment) code l (is_owner owner) n more input steps c)
    × IsInBudget power budget (text_of original) code l (sites_of original foreign code l owner found)
    (starting_level (length power.levels) foreign.keyed_segment) n r.followed.kept.moves
    (run_of foreign (length power.levels) input r.followed.followed.after).steps

-- A paced image keeps the promise, with the worst cycles under what its own fragments add, where graph and loops are those of the original and the notes.
abbrev pub PacedImagesKeepThePromise : Type 0
PacedImagesKeepThePromise = (power : PowerModel) → IsPowerModel power → (budget : ℕ → ℕ) (original_file file : List ℕ)
    (original foreign : Image) → image_of original_file ≡ Ok original → image_of file ≡ Ok foreign →
    ((a : ℕ) → loaded_byte foreign a < 256) → original.keyed_segment ≡ None →
    (notes : List LoopNote) (v : FlowGraph) (tree : LoopView) → IsGraphOf (text_of original) v → IsTreeOf v notes tree →
    (found : Found) (owner : Owner) (n : Numbers) (least : Charged) (more : Numbers) →
    IsPacedImage power budget original foreign v.code (loops v tree) (noted_loops notes).inside found owner n least more →
    KeepsThePromise power original notes foreign (more.worst 0)
