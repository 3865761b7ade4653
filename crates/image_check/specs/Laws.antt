-- Scaffold: the law of safe images, as a statement for the contract of a function.
use Rattle.std.specs.Prelude.{◌≡◌, ℕ, ◌^◌, ◌<◌, ◌≤◌, ◌==◌, Bool, false, List, length, Option, Some, Ok, None, All}
use Rattle.scale_base.specs.Image.{Image, image_of, loaded_byte}
use Rattle.scale_base.specs.Run.{starting_level}
use Rattle.power_model.specs.Numbers.{PowerModel, IsPowerModel}
use Rattle.cost_theory.specs.Graph.{Loops}
use Rattle.cycle_laws.specs.Charged.{Charged}
use Rattle.cost_theory.specs.Reached.{Code}
use Rattle.cost_theory.specs.Worst.{Numbers}
use Rattle.code_text.specs.Text.{text_of}
use Rattle.graph_runs.specs.Laws.{IsProgramOf}
use Rattle.graph_runs.specs.KeptSteps.{Carried, by_extents}
use Rattle.graph_runs.specs.KeptRuns.{kept_of}
use Rattle.paid_runs.specs.Patched.{IsTuned, IsTunedRun}
use Rattle.foreign_scan.specs.Scanned.{Found}
use Rattle.loop_file.specs.declared.notes.LoopNote.{LoopNote}
use Rattle.loop_file.specs.Kept.{noted_loops}
use Rattle.flow_graph.specs.FlowGraph.{FlowGraph, IsGraphOf}
use Rattle.loop_forest.specs.Tree.{LoopView, loops, IsTreeOf}
use Rattle.rewritten_runs.specs.Promise.{KeepsThePromise}
use Rattle.image_check.specs.Safe.{Owner, owner_bound, sites_of, IsSafeImage}

-- which counter is of which loop
abbrev pub owner_is : Option ℕ → ℕ → Bool
owner_is None k = false
owner_is (Some j) k = j == k

abbrev pub is_owner : Owner → ℕ → ℕ → Bool
is_owner owner c k = owner_is (owner c) k

-- A safe image is a tuned one: so each kept run of it is safe.
abbrev pub SafeImagesAreTuned : Type 0
SafeImagesAreTuned = (power : PowerModel) → IsPowerModel power → (original_file file : List ℕ) (original foreign : Image) →
    image_of original_file ≡ Ok original → image_of file ≡ Ok foreign → ((a : ℕ) → loaded_byte foreign a < 256) →
    original.keyed_segment ≡ None →
    (code : Code) (l : Loops) (extent : ℕ → ℕ → Bool) → IsProgramOf (text_of original) code l extent →
    ((k : ℕ) → k < l.loops → l.bound k ≤ 2 ^ 31) →
    (found : Found) (owner : Owner) (n : Numbers) (least : Charged) (more : Numbers) →
    IsSafeImage power original foreign code l extent found owner n least more →
    IsTuned power original foreign (λ c. owner_bound l (owner c)) (sites_of original foreign code l owner found)
    (starting_level (length power.levels) foreign.keyed_segment) code l extent (is_owner owner) n least more

-- So every kept run of a safe image is safe: it ends as the original's does, with the same output, in time, at no higher level than before, with no more energy than
-- its own cycles at its starting level, and with at most so many cycles and steps more.
abbrev pub SafeImagesKeepRuns : Type 0
SafeImagesKeepRuns = (power : PowerModel) → IsPowerModel power → (original_file file : List ℕ) (original foreign : Image) →
    image_of original_file ≡ Ok original → image_of file ≡ Ok foreign → ((a : ℕ) → loaded_byte foreign a < 256) →
    original.keyed_segment ≡ None →
    (code : Code) (l : Loops) (extent : ℕ → ℕ → Bool) → IsProgramOf (text_of original) code l extent →
    ((k : ℕ) → k < l.loops → l.bound k ≤ 2 ^ 31) →
    (found : Found) (owner : Owner) (n : Numbers) (least : Charged) (more : Numbers) →
    IsSafeImage power original foreign code l extent found owner n least more →
    (input : List ℕ) (steps : ℕ) (c : Carried) → kept_of original (length power.levels) input (by_extents l extent) steps ≡ Some c →
    IsTunedRun power original foreign (sites_of original foreign code l owner found)
    (starting_level (length power.levels) foreign.keyed_segment) code l (is_owner owner) n more input steps c

-- A safe image keeps the promise, with the worst cycles under what its own fragments add, where graph and loops are those of the original and the notes.
abbrev pub SafeImagesKeepThePromise : Type 0
SafeImagesKeepThePromise = (power : PowerModel) → IsPowerModel power → (original_file file : List ℕ) (original foreign : Image) →
    image_of original_file ≡ Ok original → image_of file ≡ Ok foreign → ((a : ℕ) → loaded_byte foreign a < 256) →
    original.keyed_segment ≡ None →
    (notes : List LoopNote) (v : FlowGraph) (tree : LoopView) → IsGraphOf (text_of original) v → IsTreeOf v notes tree →
    (found : Found) (owner : Owner) (n : Numbers) (least : Charged) (more : Numbers) →
    IsSafeImage power original foreign v.code (loops v tree) (noted_loops notes).inside found owner n least more →
    KeepsThePromise power original notes foreign (more.worst 0)

-- The bytes that the image of a file of bytes loads are bytes.
abbrev pub LoadedBytesAreSmall : Type 0
LoadedBytesAreSmall = (file : List ℕ) (image : Image) → image_of file ≡ Ok image → All (λ b. b < 256) file → (a : ℕ) →
    loaded_byte image a < 256
