-- Scaffold: the worst case of a program, as `hold` has it.
use Rattle.std.specs.Prelude.{◌≡◌, ℕ, List, map, slice_get, Some, Result, Ok, Err}
use Rattle.scale_base.specs.declared.refusal.Refusal.{Refusal}
use Rattle.scale_base.specs.Image.{Image}
use Rattle.power_model.specs.Numbers.{PowerModel}
use Rattle.power_model.specs.Price.{cycles_of}
use Rattle.power_model.specs.Slowest.{slowest_of}
use Rattle.loop_file.specs.declared.notes.LoopNote.{LoopNote}
use Rattle.code_text.specs.Text.{text_of}
use Rattle.code_text.specs.EdgeCosts.{cost_of}
use Rattle.flow_graph.specs.FlowGraph.{graph, IsGraphOf}
use Rattle.loop_forest.specs.Tree.{loops, IsTreeOf}
use Rattle.worst_cycles.specs.Worst.{by_edge, HasLeftSizes, IsLeftOf, IsWorstFound}
use Rattle.scaler.specs.declared.timing.TimedProgram.{TimedProgram}
use Rattle.scaler.specs.Held.{IsHeldProgram}

-- The graph and the loops of an image, the costs of its edges on a machine, its worst cycles and all that is left of them by edge, and the slowest level at which
-- they are in time.
pub record IsTimed (power : PowerModel) (image : Image) (notes : List LoopNote) (p : TimedProgram) : Type 0 where
  pub code_is : IsGraphOf (text_of image) p.graph
  pub tree_is : IsTreeOf p.graph notes p.tree
  pub weights_are : p.weights ≡ map (cost_of (cycles_of power.costs)) p.graph.classes
  pub worst_is : IsWorstFound (graph p.graph) (loops p.graph p.tree) (by_edge p.weights) (Ok p.worst)
  pub sizes : HasLeftSizes p.graph p.worst
  pub left : IsLeftOf p.graph (loops p.graph p.tree) (by_edge p.weights) p.worst
  pub total : ℕ
  pub total_is : slice_get p.worst.worst 0 ≡ Some total
  pub in_time : slowest_of power total ≡ Some p.start

-- or what `hold` refuses of it
abbrev pub IsTimedFound : PowerModel → Image → List LoopNote → Result TimedProgram Refusal → Type 0
IsTimedFound power image notes (Ok p) = IsTimed power image notes p
IsTimedFound power image notes (Err refusal) = IsHeldProgram power image notes (Err refusal)
