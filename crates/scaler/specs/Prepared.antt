-- Scaffold: what stands ready of the program of three files, whatever the least gain of its marks and whether its loops are counted.
use Rattle.std.specs.Prelude.{◌≡◌, ℕ, List, map, Result, Ok, Err}
use Rattle.scale_base.specs.declared.refusal.Refusal.{Refusal}
use Rattle.scale_base.specs.Image.{Image}
use Rattle.power_model.specs.Numbers.{PowerModel, IsPowerModel}
use Rattle.power_model.specs.Price.{cycles_of}
use Rattle.code_text.specs.Text.{text_of}
use Rattle.code_text.specs.EdgeCosts.{cost_of}
use Rattle.flow_graph.specs.FlowGraph.{graph, IsGraphOf}
use Rattle.loop_file.specs.declared.notes.LoopNote.{LoopNote}
use Rattle.loop_file.specs.Notes.{uncounted_note}
use Rattle.loop_forest.specs.Tree.{loops, IsTreeOf}
use Rattle.worst_cycles.specs.Worst.{WorstView, by_edge, HasLeftSizes, IsLeftOf, IsWorstFound}
use Rattle.scale_sites.specs.Counters.{AreCounters, counted_loops}
use Rattle.program_sources.specs.Sources.{sources_of}
use Rattle.marked_images.specs.declared.stubs.Marking.{Marking}
use Rattle.scaler.specs.declared.preparing.LoopedGraph.{LoopedGraph}
use Rattle.scaler.specs.declared.preparing.PreparedProgram.{PreparedProgram}
use Rattle.scaler.specs.Held.{IsHeld}
use Rattle.scaler.specs.Rewritten.{IsRewrittenProgram}
use Rattle.scaler.specs.RewrittenAs.{with_gain}
use Rattle.scaler.specs.Scalings.{IsMarkingBySlack}
use Rattle.scaler.specs.Timed.{IsTimed}

-- ---- the program

-- What the bytes of an image, of a machine file and of a loop file are, the program of the image with its loops and its worst case, and the tree of its loops
-- where none is counted.
pub record IsPrepared (image machine loop_file : List ℕ) (p : PreparedProgram) : Type 0 where
  pub notes : List LoopNote
  pub sources_are : sources_of image machine loop_file ≡ Ok (record { power = p.power; view = p.view; notes = notes })
  pub in_range : IsPowerModel p.power
  pub timed : IsTimed p.power p.view notes p.program
  pub uncounted : IsTreeOf p.program.graph (map uncounted_note notes) p.uncounted

-- or what `hold` refuses of them
abbrev pub IsPreparedFound : (image machine loop_file : List ℕ) → Result PreparedProgram Refusal → Type 0
IsPreparedFound image machine loop_file (Ok p) = IsPrepared image machine loop_file p
IsPreparedFound image machine loop_file (Err refusal) = IsHeld image machine loop_file (Err refusal)

-- ---- its marks

-- The graph of an image and the loops of notes, with their worst cycles by the costs of the edges on a machine, and all that is left of them by edge.
pub record IsReady (power : PowerModel) (image : Image) (notes : List LoopNote) (p : LoopedGraph) (x : WorstView) : Type 0 where
  pub code_is : IsGraphOf (text_of image) p.graph
  pub tree_is : IsTreeOf p.graph notes p.tree
  pub weights : List ℕ
  pub weights_are : weights ≡ map (cost_of (cycles_of power.costs)) p.graph.classes
  pub worst_is : IsWorstFound (graph p.graph) (loops p.graph p.tree) (by_edge weights) (Ok x)
  pub sizes : HasLeftSizes p.graph x
  pub left : IsLeftOf p.graph (loops p.graph p.tree) (by_edge weights) x

-- the same of a program that stands ready, with another least gain and the first of its trees
abbrev pub IsReadyWith : PreparedProgram → ℕ → List LoopNote → Type 0
IsReadyWith p min_gain notes =
    IsReady (with_gain p.power min_gain) p.view notes (record { graph = p.program.graph; tree = p.program.tree }) p.program.worst

-- a program with its two trees of loops exchanged
abbrev pub exchanged : PreparedProgram → PreparedProgram
exchanged p = record {
  power = p.power;
  view = p.view;
  program = record {
    graph = p.program.graph;
    tree = p.uncounted;
    weights = p.program.weights;
    worst = p.program.worst;
    start = p.program.start;
  };
  uncounted = p.program.tree;
}

-- its marks by slack with their numbers, where its counted loops can be counted, or the refusal of these
abbrev pub IsMarkingFrom : PowerModel → Image → List LoopNote → LoopedGraph → Result (Marking × ℕ) Refusal → Type 0
IsMarkingFrom power image notes p (Ok x) = AreCounters p.graph p.tree (Ok (counted_loops p.tree)) ×
    IsMarkingBySlack power image p.graph p.tree (Ok x)
IsMarkingFrom power image notes p (Err refusal) = IsRewrittenProgram power image notes (Err refusal)
