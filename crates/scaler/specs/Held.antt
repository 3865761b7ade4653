-- What `hold` gives: the image with an empty keyed segment, which starts it at the slowest level at which its worst case is in time.
-- It is a relation, since a refusal may name any of several cycles.
use Rattle.std.specs.Prelude.{◌≡◌, ◌⊎◌, ℕ, nat_lt, if◌then◌else◌, List, [], Option, Some, None, Result, Ok, Err}
use Rattle.scale_base.specs.declared.limits.TheConstants.{CYCLE_LIMIT}
use Rattle.scale_base.specs.declared.refusal.Refusal.{Refusal}
use Rattle.scale_base.specs.declared.refusal.Refusal.TheVariants.{DeadlineMissed, TooLong}
use Rattle.scale_base.specs.declared.summary.Summary.{Summary}
use Rattle.scale_base.specs.Image.{Image}
use Rattle.power_model.specs.Numbers.{PowerModel}
use Rattle.power_model.specs.Price.{cycles_of, time_at}
use Rattle.power_model.specs.Slowest.{slowest_of, fastest}
use Rattle.loop_file.specs.declared.notes.LoopNote.{LoopNote}
use Rattle.elf_patch.specs.Stored.{stored_image, held_base}
use Rattle.cost_theory.specs.Worst.{Numbers, AreNumbers}
use Rattle.code_text.specs.Text.{text_of}
use Rattle.code_text.specs.EdgeCosts.{weights}
use Rattle.code_text.specs.TextGraph.{text_graph}
use Rattle.flow_graph.specs.FlowGraph.{FlowGraph, IsGraphOf}
use Rattle.loop_forest.specs.Tree.{LoopView, loops, IsTreeOf}
use Rattle.answer_parts.specs.Parts.{Then}
use Rattle.program_sources.specs.Sources.{sources_of}
use Rattle.marked_images.specs.Refused.{IsCodeRefused, IsLoopRefused}

-- ---- what is stored at a number of worst cycles

-- the image with an empty keyed segment and a starting level
abbrev pub held_file : Image → ℕ → List ℕ
held_file image start = stored_image image.file [] (held_base image) [] start

abbrev pub held_summary : PowerModel → ℕ → ℕ → Summary
held_summary power worst start = record {
  start = start;
  worst = worst;
  time = time_at power start worst;
  deadline = power.deadline;
  stub_cycles = 0;
  switch_edges = 0;
  exit_edges = 0;
  count_edges = 0;
  stub_bytes = 0;
}

-- at the starting level, if there is one
abbrev pub held_from : PowerModel → Image → ℕ → Option ℕ → Result (List ℕ × Summary) Refusal
held_from power image worst None = Err (DeadlineMissed (time_at power (fastest power) worst) power.deadline)
held_from power image worst (Some start) = Ok ((held_file image start, held_summary power worst start))

unfoldable pub held_at : PowerModel → Image → ℕ → Result (List ℕ × Summary) Refusal
held_at power image worst = held_from power image worst (slowest_of power worst)

-- at most 2^48 worst cycles are held
abbrev pub held_within : PowerModel → Image → ℕ → Result (List ℕ × Summary) Refusal
held_within power image worst = if nat_lt CYCLE_LIMIT worst then Err TooLong else held_at power image worst

-- ---- what the program of an image and its loops give

-- it is a program with loops, under the costs of its instructions, and its worst cycles decide
pub record IsProgramHeld (power : PowerModel) (image : Image) (notes : List LoopNote) (answer : Result (List ℕ × Summary) Refusal)
    : Type 0 where
  pub code : FlowGraph
  pub tree : LoopView
  pub numbers : Numbers
  pub code_is : IsGraphOf (text_of image) code
  pub tree_is : IsTreeOf code notes tree
  pub numbers_are : AreNumbers (text_graph (text_of image) code.code) (loops code tree)
      (weights (text_of image) code.code (cycles_of power.costs)) numbers
  pub answer_is : answer ≡ held_within power image (numbers.worst 0)

abbrev pub IsHeldProgram : PowerModel → Image → List LoopNote → Result (List ℕ × Summary) Refusal → Type 0
IsHeldProgram power image notes answer = IsCodeRefused image answer ⊎ (IsLoopRefused image notes answer ⊎
    IsProgramHeld power image notes answer)

-- ---- what the files give

-- The stored bytes and the summary, or the first refusal: of the machine file, of the image, of a keyed segment, of the loop file, of the
-- code, of its loops, of too many worst cycles, and of the deadline.
unfoldable pub IsHeld : List ℕ → List ℕ → List ℕ → Result (List ℕ × Summary) Refusal → Type 0
IsHeld image machine loops answer =
    Then (sources_of image machine loops) (λ s. IsHeldProgram s.power s.view s.notes) answer
