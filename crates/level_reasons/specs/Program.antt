-- The reasons of a program: what the bytes of an image, of a machine file and of a loop file give.
use Rattle.std.specs.Prelude.{◌≡◌, ℕ, ◌≤◌, List, Some, Result, Ok, Err}
use Rattle.scale_base.specs.declared.limits.TheConstants.{CYCLE_LIMIT}
use Rattle.scale_base.specs.declared.refusal.Refusal.{Refusal}
use Rattle.scale_base.specs.declared.summary.Summary.{Summary}
use Rattle.scale_base.specs.Image.{Image, image_of}
use Rattle.power_model.specs.Numbers.{PowerModel}
use Rattle.power_model.specs.Slowest.{slowest_of}
use Rattle.machine_file.specs.Machine.{read_machine}
use Rattle.loop_file.specs.declared.notes.LoopNote.{LoopNote}
use Rattle.loop_file.specs.Loops.{read_loops}
use Rattle.cost_theory.specs.Worst.{Numbers, AreNumbers}
use Rattle.cycle_laws.specs.Charged.{Charged, AreCharged, to_end_after}
use Rattle.code_text.specs.Text.{text_of}
use Rattle.flow_graph.specs.FlowGraph.{FlowGraph, graph, IsGraphOf}
use Rattle.loop_forest.specs.Tree.{LoopView, loops, IsTreeOf}
use Rattle.worst_cycles.specs.Worst.{slack_at, rest_at}
use Rattle.rewritten_runs.specs.Stubs.{plain_weights}
use Rattle.answer_parts.specs.Parts.{unscaled}
use Rattle.scaler.specs.Held.{IsHeld, IsHeldProgram}
use Rattle.level_reasons.specs.declared.shown.Shown.{Shown}
use Rattle.level_reasons.specs.Reasons.{ProgramNumbers, AreEdgeLines, AreLoopLines}

-- by edge its slack, the cycles that are left at most behind it, and the least cycles from there to an end of the run; by loop the greatest cost of one turn
abbrev pub numbers_of : FlowGraph → LoopView → (ℕ → ℕ) → Numbers → Charged → ProgramNumbers
numbers_of v t w n least = record {
  told = λ e. record {
    slack = slack_at (graph v) (loops v t) w n e;
    left = rest_at (graph v) (loops v t) n e;
    least = to_end_after (graph v) (loops v t) least e;
  };
  turn = n.iteration;
}

-- The graph and the loops of an image, under the costs of its own instructions, as `hold` has them: its worst cycles, the slowest level at which they are in time,
-- and the lines of its edges and of its loops.
pub record IsProgramShown (power : PowerModel) (image : Image) (notes : List LoopNote) (shown : Shown) : Type 0 where
  pub code : FlowGraph
  pub tree : LoopView
  pub numbers : Numbers
  pub least : Charged
  pub code_is : IsGraphOf (text_of image) code
  pub tree_is : IsTreeOf code notes tree
  pub numbers_are : AreNumbers (graph code) (loops code tree) (plain_weights power image code) numbers
  pub least_are : AreCharged (graph code) (loops code tree) (plain_weights power image code) least
  pub short : numbers.worst 0 ≤ CYCLE_LIMIT
  pub worst : shown.worst ≡ numbers.worst 0
  pub start : slowest_of power (numbers.worst 0) ≡ Some shown.start
  pub edges : AreEdgeLines power code (numbers_of code tree (plain_weights power image code) numbers least) shown.start shown.edges.items
  pub loops : AreLoopLines power code tree (numbers_of code tree (plain_weights power image code) numbers least) shown.start
      shown.loops.items

-- or what `hold` refuses of it
abbrev pub IsShownProgram : PowerModel → Image → List LoopNote → Result Shown Refusal → Type 0
IsShownProgram power image notes (Ok shown) = IsProgramShown power image notes shown
IsShownProgram power image notes (Err refusal) = IsHeldProgram power image notes (Err refusal)

-- the machine, the image and the notes that the bytes are, and the program of these
pub record HasReasons (image machine loop_file : List ℕ) (shown : Shown) : Type 0 where
  pub power : PowerModel
  pub original : Image
  pub notes : List LoopNote
  pub power_is : read_machine machine ≡ Ok power
  pub original_is : image_of image ≡ Ok original
  pub unscaled : unscaled original.keyed_segment ≡ Ok tt
  pub notes_are : read_loops original loop_file ≡ Ok notes
  pub program : IsProgramShown power original notes shown

-- the reasons, or the first refusal, as `hold` has it
abbrev pub AreReasons : List ℕ → List ℕ → List ℕ → Result Shown Refusal → Type 0
AreReasons image machine loop_file (Ok shown) = HasReasons image machine loop_file shown
AreReasons image machine loop_file (Err refusal) = IsHeld image machine loop_file (Err refusal)

-- The law: a program that has reasons is one that `hold` stores, at the same level and with the same worst cycles.
abbrev pub ShownProgramsAreHeld : Type 0
ShownProgramsAreHeld = (image machine loop_file : List ℕ) (shown : Shown) → AreReasons image machine loop_file (Ok shown)
    → (stored : List ℕ) × (summary : Summary) × IsHeld image machine loop_file (Ok ((stored, summary))) × (summary.start ≡ shown.start) ×
    (summary.worst ≡ shown.worst)
