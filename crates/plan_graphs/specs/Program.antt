-- The drawn graph of a program: what the bytes of an image, of a machine file and of a loop file give.
use Rattle.std.specs.Prelude.{◌≡◌, ℕ, ◌^◌, ◌<◌, ◌≤◌, Bool, true, false, List, [], length, slice_get, Option, Some, None, Result, Ok, Err}
use Rattle.scale_base.specs.declared.limits.TheConstants.{CYCLE_LIMIT}
use Rattle.scale_base.specs.declared.refusal.Refusal.{Refusal}
use Rattle.scale_base.specs.Image.{Image, image_of}
use Rattle.scale_base.specs.declared.fragments.Mark.{Mark}
use Rattle.power_model.specs.Numbers.{PowerModel}
use Rattle.power_model.specs.Slowest.{slowest_of}
use Rattle.machine_file.specs.Machine.{read_machine}
use Rattle.loop_file.specs.declared.notes.LoopNote.{LoopNote}
use Rattle.loop_file.specs.Loops.{read_loops}
use Rattle.cost_theory.specs.Worst.{Numbers, AreNumbers}
use Rattle.code_text.specs.Text.{text_of}
use Rattle.flow_graph.specs.FlowGraph.{FlowGraph, graph, IsGraphOf}
use Rattle.flow_graph.specs.Blocks.{AreBlocks}
use Rattle.graph_algorithms.specs.Arcs.{number_in_place}
use Rattle.loop_forest.specs.Tree.{LoopView, loops, IsTreeOf}
use Rattle.scale_sites.specs.Counters.{AreCounters, counted_loops}
use Rattle.rewritten_runs.specs.Stubs.{plain_weights, marks_by_slack}
use Rattle.worst_walks.specs.declared.counts.WalkCounts.{WalkCounts}
use Rattle.worst_walks.specs.Explained.{IsWorstWalk}
use Rattle.answer_parts.specs.Parts.{unscaled}
use Rattle.scaler.specs.Held.{IsHeld, IsHeldProgram}
use Rattle.plan_graphs.specs.declared.plan.PlanGraph.{PlanGraph}
use Rattle.plan_graphs.specs.Drawn.{Told, AreDrawn, IsBlockDrawn, IsFunctionDrawn, IsLoopDrawn}

-- The marks of edges are those that `rewrite` chooses, by the slack of each under the costs of the program's own instructions. There are none where `rewrite` refuses a loop
-- that can't be counted, or too many of them. Where the program isn't in time with its stubs, or a stub is out of reach, they are drawn all the same.
abbrev pub AreMarksDrawn : PowerModel → Image → FlowGraph → LoopView → Numbers → Bool → (ℕ → List Mark) → Type 0
AreMarksDrawn power image v t n true marks = AreCounters v t (Ok (counted_loops t)) ×
    ((e : ℕ) → e < length v.code.edges → marks e ≡ marks_by_slack power image v t n e)
AreMarksDrawn power image v t n false marks = ((refusal : Refusal) × AreCounters v t (Err refusal)) × ((e : ℕ) → marks e ≡ [])

-- The counts are those of one walk that takes the worst cycles, and nothing where none was found: that one is found is tested, not proved.
abbrev pub IsWalkDrawn : FlowGraph → LoopView → (ℕ → ℕ) → ℕ → Bool → Told → Type 0
IsWalkDrawn v t w worst true told = (x : WalkCounts) × IsWorstWalk (graph v) (loops v t) w worst x
    × ((e : ℕ) → told.taken e ≡ number_in_place x.taken.items e) × ((f : ℕ) → told.calls f ≡ number_in_place x.calls.items f) ×
    ((k : ℕ) → told.turns k ≡ number_in_place x.turns.items k)
IsWalkDrawn v t w worst false told = ((e : ℕ) → told.taken e ≡ 0) × ((f : ℕ) → told.calls f ≡ 0) × ((k : ℕ) → told.turns k ≡ 0)

-- The graph and the loops of an image, under the costs of its own instructions, as `hold` has them; its worst cycles, which are in time at some level; and all its functions,
-- loops and basic blocks.
pub record IsProgramDrawn (power : PowerModel) (image : Image) (notes : List LoopNote) (plan : PlanGraph) : Type 0 where
  pub code : FlowGraph
  pub tree : LoopView
  pub told : Told
  pub code_is : IsGraphOf (text_of image) code
  pub tree_is : IsTreeOf code notes tree
  pub numbers_are : AreNumbers (graph code) (loops code tree) (plain_weights power image code) told.numbers
  pub short : told.numbers.worst 0 ≤ CYCLE_LIMIT
  pub in_time : (start : ℕ) × (slowest_of power (told.numbers.worst 0) ≡ Some start)
  pub worst : plan.worst ≡ told.numbers.worst 0
  pub marks_are : AreMarksDrawn power image code tree told.numbers plan.countable told.marks
  pub walk_is : IsWalkDrawn code tree (plain_weights power image code) (told.numbers.worst 0) plan.walked told
  pub functions : AreDrawn (IsFunctionDrawn code told) (length code.code.functions) plan.functions.items
  pub loops : AreDrawn (IsLoopDrawn code tree told) (length tree.headers) plan.loops.items
  pub blocks_are : AreBlocks code code.blocks
  pub blocks : AreDrawn (IsBlockDrawn code tree told) (length code.blocks) plan.blocks.items

-- or what `hold` refuses of it
abbrev pub IsDrawnProgram : PowerModel → Image → List LoopNote → Result PlanGraph Refusal → Type 0
IsDrawnProgram power image notes (Ok plan) = IsProgramDrawn power image notes plan
IsDrawnProgram power image notes (Err refusal) = IsHeldProgram power image notes (Err refusal)

-- the machine, the image and the notes that the bytes are, and the program of these
pub record HasPlan (image machine loop_file : List ℕ) (plan : PlanGraph) : Type 0 where
  pub power : PowerModel
  pub original : Image
  pub notes : List LoopNote
  pub power_is : read_machine machine ≡ Ok power
  pub original_is : image_of image ≡ Ok original
  pub unscaled : unscaled original.keyed_segment ≡ Ok tt
  pub notes_are : read_loops original loop_file ≡ Ok notes
  pub program : IsProgramDrawn power original notes plan

-- the drawn graph, or the first refusal, as `hold` has it
abbrev pub IsPlanDrawn : List ℕ → List ℕ → List ℕ → Result PlanGraph Refusal → Type 0
IsPlanDrawn image machine loop_file (Ok plan) = HasPlan image machine loop_file plan
IsPlanDrawn image machine loop_file (Err refusal) = IsHeld image machine loop_file (Err refusal)
