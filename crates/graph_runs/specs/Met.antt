-- Scaffold: what shows that the hypotheses of the laws are met together: an image, its program with a loop, the numbers of that program, and the run of
-- the image, which is kept to its exit.
use Rattle.std.specs.Prelude.{◌≡◌, ℕ, Bool, true, List, Ok, is_some}
use Rattle.scale_base.specs.declared.stepping.Class.{Class}
use Rattle.scale_base.specs.Image.{Image, image_of}
use Rattle.scale_base.specs.Run.{HasExited, run_of}
use Rattle.cost_theory.specs.Graph.{Loops}
use Rattle.cost_theory.specs.Worst.{Numbers, AreNumbers}
use Rattle.cost_theory.specs.Reached.{Code}
use Rattle.code_text.specs.Text.{text_of}
use Rattle.code_text.specs.EdgeCosts.{weights}
use Rattle.code_text.specs.TextGraph.{text_graph}
use Rattle.graph_runs.specs.KeptSteps.{by_extents}
use Rattle.graph_runs.specs.KeptRuns.{kept_of}
use Rattle.graph_runs.specs.Laws.{IsProgramOf}

pub record RunHypothesesAreMet : Type 0 where
  pub file : List ℕ
  pub image : Image
  pub code : Code
  pub loops : Loops
  pub extent : ℕ → ℕ → Bool
  pub read : image_of file ≡ Ok image
  pub program : IsProgramOf (text_of image) code loops extent
  pub looped : loops.loops ≡ 1
  pub numbers : (costs : Class → ℕ) → (nums : Numbers) × AreNumbers (text_graph (text_of image) code) loops
      (weights (text_of image) code costs) nums
  pub kept : (levels : ℕ) (input : List ℕ) → is_some (kept_of image levels input (by_extents loops extent) 3) ≡ true
  pub exits : (levels : ℕ) (input : List ℕ) → (run_of image levels input 3).standing ≡ HasExited 0
