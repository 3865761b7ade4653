-- What `plan` gives: the summary of the file that `rewrite` would store, and a line for each fragment of each edge.
use Rattle.std.specs.Prelude.{◌≡◌, ℕ, ◌+◌, List, [], ◌∷◌, ◌++◌, map, Result, Ok, Err}
use Rattle.scale_base.specs.declared.fragments.Fragment.{Fragment}
use Rattle.scale_base.specs.declared.fragments.Fragment.TheVariants.{Switch, Exit, Reset, Count, Lowest, Tally}
use Rattle.scale_base.specs.declared.plan.SiteLine.{SiteLine}
use Rattle.scale_base.specs.declared.refusal.Refusal.{Refusal}
use Rattle.scale_base.specs.declared.summary.Summary.{Summary}
use Rattle.scale_base.specs.Image.{Image, image_of}
use Rattle.power_model.specs.Numbers.{PowerModel}
use Rattle.machine_file.specs.Machine.{read_machine}
use Rattle.loop_file.specs.declared.notes.LoopNote.{LoopNote}
use Rattle.loop_file.specs.Loops.{read_loops}
use Rattle.scale_base.specs.declared.edges.Edge.{Edge}
use Rattle.cost_theory.specs.Worst.{Numbers}
use Rattle.cycle_laws.specs.Charged.{Charged, AreCharged}
use Rattle.flow_graph.specs.FlowGraph.{FlowGraph, graph}
use Rattle.loop_forest.specs.Tree.{LoopView, loops}
use Rattle.scale_sites.specs.Counters.{counted_loops}
use Rattle.rewritten_runs.specs.Stubs.{IsWeighed, marks_by_slack, stored_weights, fragments_at, loop_of}
use Rattle.scaler.specs.Rewritten.{IsRewritten}

-- ---- the lines

-- the number of the loop of a fragment, from 1 on as in the loop file; 0 for one without a loop
abbrev pub loop_number : List ℕ → Fragment → ℕ
loop_number counted (Switch word) = 0
loop_number counted (Exit counter shift rows) = loop_of counted counter + 1
loop_number counted (Reset counter) = loop_of counted counter + 1
loop_number counted (Count counter) = loop_of counted counter + 1
loop_number counted (Lowest down) = 0
loop_number counted (Tally counter shift from) = loop_of counted counter + 1

abbrev pub line_of : List ℕ → Edge → Fragment → SiteLine
line_of counted edge fragment = record { edge = edge; loop_no = loop_number counted fragment; fragment = fragment }

-- the lines of the edges from a number on
abbrev pub lines_from : List ℕ → (ℕ → List Fragment) → ℕ → List Edge → List SiteLine
lines_from counted fragments e [] = []
lines_from counted fragments e (edge ∷ edges) = map (line_of counted edge) (fragments e) ++ lines_from counted fragments (e + 1) edges

-- the lines of a program: its edges ascend by address, and at one address stand as Taken, Untaken
abbrev pub plan_lines : PowerModel → Image → FlowGraph → LoopView → (plain stored : Numbers) → Charged → List SiteLine
plan_lines power image v t plain stored least =
    lines_from (counted_loops t) (fragments_at power image v t (marks_by_slack power image v t plain) stored least) 0 v.code.edges

-- ---- what the files give

-- The bytes of an image, of a machine file and of a loop file: the machine, the image and the notes that they are, the program of the image with its numbers and its
-- least cycles, and the lines of that.
pub record HasLines (image machine loop_file : List ℕ) (lines : List SiteLine) : Type 0 where
  pub power : PowerModel
  pub original : Image
  pub notes : List LoopNote
  pub power_is : read_machine machine ≡ Ok power
  pub original_is : image_of image ≡ Ok original
  pub notes_are : read_loops original loop_file ≡ Ok notes
  pub code : FlowGraph
  pub tree : LoopView
  pub plain : Numbers
  pub stored : Numbers
  pub least : Charged
  pub weighed : IsWeighed power original notes code tree plain stored
  pub least_are : AreCharged (graph code) (loops code tree) (stored_weights power original code
      (marks_by_slack power original code tree plain)) least
  pub lines_are : lines ≡ plan_lines power original code tree plain stored least

-- the summary of the file that is stored, with the lines of its fragments, or the first refusal
abbrev pub IsPlanned : List ℕ → List ℕ → List ℕ → Result (Summary × List SiteLine) Refusal → Type 0
IsPlanned image machine loop_file (Err refusal) = IsRewritten image machine loop_file (Err refusal)
IsPlanned image machine loop_file (Ok plan) = (stored : List ℕ) × IsRewritten image machine loop_file (Ok ((stored, plan.0))) ×
    HasLines image machine loop_file plan.1
