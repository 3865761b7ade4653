-- Where the worst cycles of a program go: what the bytes of an image, of a machine file and of a loop file give.
use Rattle.std.specs.Prelude.{◌≡◌, ℕ, ◌^◌, ◌≤◌, List, Option, Some, None, Result, Ok, Err}
use Rattle.std.specs.Global.{Vec}
use Rattle.scale_base.specs.declared.limits.TheConstants.{CYCLE_LIMIT}
use Rattle.scale_base.specs.declared.refusal.Refusal.{Refusal}
use Rattle.scale_base.specs.declared.summary.Summary.{Summary}
use Rattle.scale_base.specs.Image.{Image, image_of}
use Rattle.power_model.specs.Numbers.{PowerModel}
use Rattle.power_model.specs.Slowest.{slowest_of}
use Rattle.machine_file.specs.Machine.{read_machine}
use Rattle.loop_file.specs.declared.notes.LoopNote.{LoopNote}
use Rattle.loop_file.specs.Loops.{read_loops}
use Rattle.cost_theory.specs.Graph.{Graph, Loops}
use Rattle.cost_theory.specs.Worst.{Numbers, AreNumbers}
use Rattle.code_text.specs.Text.{text_of}
use Rattle.flow_graph.specs.FlowGraph.{FlowGraph, graph, IsGraphOf}
use Rattle.loop_forest.specs.Tree.{LoopView, loops, IsTreeOf}
use Rattle.rewritten_runs.specs.Stubs.{plain_weights}
use Rattle.answer_parts.specs.Parts.{unscaled}
use Rattle.scaler.specs.Held.{IsHeld, IsHeldProgram}
use Rattle.worst_lines.specs.declared.shown.Line.{Line}
use Rattle.worst_reports.specs.declared.explained.Explained.{Explained}
use Rattle.worst_lines.specs.Lines.{AreLines}

-- the lines of a walk, or none where no walk is found
abbrev pub AreLinesIfFound : List ℕ → Graph → Loops → (ℕ → ℕ) → ℕ → Option (Vec Line) → Type 0
AreLinesIfFound file g l w worst None = Unit {0}
AreLinesIfFound file g l w worst (Some lines) = AreLines file g l w worst lines.items

-- The graph and the loops of an image, under the costs of its own instructions, as `hold` has them: its worst cycles, which are in time at some level, and the
-- lines of a walk that takes them.
pub record IsProgramExplained (power : PowerModel) (image : Image) (notes : List LoopNote) (explained : Explained) : Type 0 where
  pub code : FlowGraph
  pub tree : LoopView
  pub numbers : Numbers
  pub code_is : IsGraphOf (text_of image) code
  pub tree_is : IsTreeOf code notes tree
  pub numbers_are : AreNumbers (graph code) (loops code tree) (plain_weights power image code) numbers
  pub short : numbers.worst 0 ≤ CYCLE_LIMIT
  pub worst : explained.worst ≡ numbers.worst 0
  pub start : ℕ
  pub in_time : slowest_of power (numbers.worst 0) ≡ Some start
  pub lines : AreLinesIfFound image.file (graph code) (loops code tree) (plain_weights power image code) (numbers.worst 0) explained.lines

-- or what `hold` refuses of it
abbrev pub IsExplainedProgram : PowerModel → Image → List LoopNote → Result Explained Refusal → Type 0
IsExplainedProgram power image notes (Ok explained) = IsProgramExplained power image notes explained
IsExplainedProgram power image notes (Err refusal) = IsHeldProgram power image notes (Err refusal)

-- the machine, the image and the notes that the bytes are, and the program of these
pub record HasExplained (image machine loop_file : List ℕ) (explained : Explained) : Type 0 where
  pub power : PowerModel
  pub original : Image
  pub notes : List LoopNote
  pub power_is : read_machine machine ≡ Ok power
  pub original_is : image_of image ≡ Ok original
  pub unscaled : unscaled original.keyed_segment ≡ Ok tt
  pub notes_are : read_loops original loop_file ≡ Ok notes
  pub program : IsProgramExplained power original notes explained

-- where the worst cycles go, or the first refusal, as `hold` has it
abbrev pub AreExplained : List ℕ → List ℕ → List ℕ → Result Explained Refusal → Type 0
AreExplained image machine loop_file (Ok explained) = HasExplained image machine loop_file explained
AreExplained image machine loop_file (Err refusal) = IsHeld image machine loop_file (Err refusal)

-- The law: a program whose worst cycles are explained is one that `hold` stores, with the same worst cycles.
abbrev pub ExplainedProgramsAreHeld : Type 0
ExplainedProgramsAreHeld = (image machine loop_file : List ℕ) (explained : Explained) → AreExplained image machine loop_file (Ok explained)
    → (stored : List ℕ) × (summary : Summary) × IsHeld image machine loop_file (Ok ((stored, summary))) × (summary.worst ≡ explained.worst)
