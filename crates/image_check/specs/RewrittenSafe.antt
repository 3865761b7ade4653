-- Scaffold: a rewritten image is a safe one. As a statement for the contract of a function.
use Rattle.std.specs.Prelude.{◌≡◌, ℕ, ◌≤◌, Bool, List, length, Some, None, Ok}
use Rattle.scale_base.specs.declared.limits.TheConstants.{CYCLE_LIMIT, IMAGE_LIMIT}
use Rattle.scale_base.specs.Image.{Image, image_of}
use Rattle.scale_base.specs.Run.{starting_level}
use Rattle.power_model.specs.Numbers.{PowerModel, IsPowerModel}
use Rattle.power_model.specs.Slowest.{slowest_of}
use Rattle.cost_theory.specs.Graph.{Loops}
use Rattle.cost_theory.specs.Reached.{Code}
use Rattle.cost_theory.specs.Worst.{Numbers}
use Rattle.cycle_laws.specs.Charged.{Charged}
use Rattle.loop_file.specs.declared.notes.LoopNote.{LoopNote}
use Rattle.loop_file.specs.Kept.{noted_loops}
use Rattle.flow_graph.specs.FlowGraph.{FlowGraph}
use Rattle.loop_forest.specs.Tree.{LoopView, loops}
use Rattle.stub_writer.specs.Stubs.{Site, out_of_reach}
use Rattle.foreign_scan.specs.Scanned.{Found}
use Rattle.rewritten_runs.specs.Stubs.{IsWeighed, HasStubs, rewritten_file}
use Rattle.image_check.specs.Safe.{Owner, IsSafeImage}

-- the image is safe with some fragments and loops of counters, under these numbers, and its key starts it at this level
pub record IsSafeAt (power : PowerModel) (original foreign : Image) (code : Code) (l : Loops) (extent : ℕ → ℕ → Bool) (n : Numbers)
    (least : Charged) (more : Numbers) (start : ℕ) : Type 0 where
  pub found : Found
  pub owner : Owner
  pub safe : IsSafeImage power original foreign code l extent found owner n least more
  pub starts : starting_level (length power.levels) foreign.keyed_segment ≡ start

-- Where a program's worst cycles under the stored weights are in time from a starting level on, and its stubs are in reach: the image of the file that is stored is
-- safe. Its numbers are those of the program, under the stored weights and under what the stubs add.
abbrev pub RewrittenImagesAreSafe : Type 0
RewrittenImagesAreSafe = (power : PowerModel) → IsPowerModel power → (file : List ℕ) (original foreign : Image) (notes : List LoopNote)
    (v : FlowGraph) (tree : LoopView) (plain stored extra : Numbers) (least : Charged) (sites : List Site) (base start : ℕ)
    → image_of file ≡ Ok original → original.keyed_segment ≡ None → length file ≤ IMAGE_LIMIT →
    IsWeighed power original notes v tree plain stored → stored.worst 0 ≤ CYCLE_LIMIT →
    slowest_of power (stored.worst 0) ≡ Some start
    → HasStubs power original v tree plain stored extra least sites base → out_of_reach base sites ≡ None →
    image_of (rewritten_file original sites base start) ≡ Ok foreign
    → IsSafeAt power original foreign v.code (loops v tree) (noted_loops notes).inside stored least extra start
