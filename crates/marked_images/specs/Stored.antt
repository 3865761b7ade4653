-- What is stored of a program with marks, and what is printed of it.
use Rattle.std.specs.Prelude.{◌≡◌, ℕ, ◌≤◌, List, Option, Some, None, Result, Ok, Err}
use Rattle.scale_base.specs.declared.limits.TheConstants.{CYCLE_LIMIT}
use Rattle.scale_base.specs.declared.refusal.Refusal.{Refusal}
use Rattle.scale_base.specs.declared.refusal.Refusal.TheVariants.{StubOutOfReach}
use Rattle.scale_base.specs.declared.summary.Summary.{Summary}
use Rattle.scale_base.specs.declared.fragments.Mark.{Mark}
use Rattle.scale_base.specs.Image.{Image}
use Rattle.power_model.specs.Numbers.{PowerModel}
use Rattle.power_model.specs.Price.{time_at}
use Rattle.power_model.specs.Slowest.{slowest_of}
use Rattle.loop_file.specs.declared.notes.LoopNote.{LoopNote}
use Rattle.cost_theory.specs.Worst.{Numbers}
use Rattle.cycle_laws.specs.Charged.{Charged}
use Rattle.flow_graph.specs.FlowGraph.{FlowGraph}
use Rattle.loop_forest.specs.Tree.{LoopView}
use Rattle.level_tables.specs.Budgets.{meets_in_budget}
use Rattle.stub_writer.specs.Stubs.{Site, block_size, out_of_reach}
use Rattle.rewritten_runs.specs.Stubs.{IsWeighedWith, HasStubsWith, rewritten_file, is_switch, is_exit_mark, is_count, edges_with}
use Rattle.marked_images.specs.Wanted.{Wanted, marked_where}

abbrev pub rewritten_summary : PowerModel → FlowGraph → (ℕ → List Mark) → (start worst stubs : ℕ) → List Site → Summary
rewritten_summary power v marked start worst stubs sites = record {
  start = start;
  worst = worst;
  time = time_at power start worst;
  deadline = power.deadline;
  stub_cycles = stubs;
  switch_edges = edges_with is_switch v marked;
  exit_edges = edges_with is_exit_mark v marked;
  count_edges = edges_with is_count v marked;
  stub_bytes = block_size sites;
}

-- unless a jump to or from the stub of an instruction is too far
abbrev pub unless_out_of_reach : Option ℕ → List ℕ × Summary → Result (List ℕ × Summary) Refusal
unless_out_of_reach None given = Ok given
unless_out_of_reach (Some at) given = Err (StubOutOfReach at)

-- ---- budgets

-- The time by which a job that runs at a level is to end, by the starting level, by the worst cycles, and by the level.
abbrev pub BudgetRule : Type 0
BudgetRule = (start worst level : ℕ) → ℕ

-- the deadline at each level, so that a switch uses the slack of its own edge alone
abbrev pub by_deadline : PowerModel → BudgetRule
by_deadline power start worst level = power.deadline

-- ---- the answer

-- The program of an image with these graph and loops, with the marks that are wanted and budgets by a rule: its worst cycles are in time from a starting level on, and it gets
-- its stubs, unless one is out of reach.
pub record IsStubbedProgram (power : PowerModel) (image : Image) (notes : List LoopNote) (v : FlowGraph) (t : LoopView) (wanted : Wanted)
    (rule : BudgetRule) (answer : Result (List ℕ × Summary) Refusal) : Type 0 where
  pub stored : Numbers
  pub extra : Numbers
  pub least : Charged
  pub sites : List Site
  pub base : ℕ
  pub start : ℕ
  pub weighed : IsWeighedWith power image notes v t (marked_where v t wanted) stored
  pub short : stored.worst 0 ≤ CYCLE_LIMIT
  pub slow : slowest_of power (stored.worst 0) ≡ Some start
  pub stubs : HasStubsWith power (meets_in_budget power (rule start (stored.worst 0))) image v t (marked_where v t wanted) stored extra
      least sites base
  pub answer_is : answer ≡ unless_out_of_reach (out_of_reach base sites) (
    rewritten_file image sites base start,
    rewritten_summary power v (marked_where v t wanted) start (stored.worst 0) (extra.worst 0)
        sites,
  )
