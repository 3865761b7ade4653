-- Scaffold: a patched image whose stubs may stand anywhere and whose loops may have several counters: what it is made of, and what its runs then are.
use Rattle.std.specs.Prelude.{◌≡◌, ℕ, ◌+◌, ◌*◌, ◌≤◌, Bool, List, length}
use Rattle.scale_base.specs.Image.{Image}
use Rattle.scale_base.specs.Run.{HasExited, run_of, starting_level}
use Rattle.power_model.specs.Numbers.{PowerModel, IsPowerModel}
use Rattle.power_model.specs.Price.{price, held_energy}
use Rattle.cost_theory.specs.Graph.{Loops}
use Rattle.cost_theory.specs.Laws.{IsAnalyzed}
use Rattle.cost_theory.specs.Worst.{Numbers}
use Rattle.cycle_laws.specs.Charged.{Charged, AreCharged}
use Rattle.cost_theory.specs.Reached.{Code}
use Rattle.code_text.specs.Text.{text_of}
use Rattle.code_text.specs.TextGraph.{text_graph}
use Rattle.graph_runs.specs.KeptSteps.{Carried}
use Rattle.graph_runs.specs.Laws.{IsProgramOf}
use Rattle.stub_writer.specs.Stubs.{Site}
use Rattle.stored_runs.specs.Cycles.{stepped_cycles}
use Rattle.stored_runs.specs.Patched.{IsPatched}
use Rattle.level_tables.specs.Budgets.{AreBudgets}
use Rattle.paid_runs.specs.Marked.{extra_site_weights}
use Rattle.paid_runs.specs.Counters.{AreCounterWords, AreCounted, IsKeptPatched}
use Rattle.power_model.specs.Switches.{period, costs_of, NeverRises}
use Rattle.paid_runs.specs.Timely.{weights_of, AreTablesOf, IsPaidRun}
use Rattle.paid_runs.specs.Budgets.{AreTablesWithin}

pub record IsTuned (power : PowerModel) (image patched : Image) (limits : ℕ → ℕ) (sites : List Site) (start : ℕ)
    (code : Code) (l : Loops) (extent : ℕ → ℕ → Bool) (is_of : ℕ → ℕ → Bool) (n : Numbers) (least : Charged) (more : Numbers) : Type 0 where
  pub power_is : IsPowerModel power
  pub patched_is : IsPatched image patched (length power.levels) limits sites start
  pub program : IsProgramOf (text_of image) code l extent
  pub counters : AreCounterWords (text_graph (text_of image) code) l limits is_of
  pub counted : AreCounted (text_of image) code l sites is_of
  -- the numbers under the stored weights, and those under what the stubs add
  pub analyzed : IsAnalyzed (text_graph (text_of image) code) l extent (weights_of power (text_of image) code sites) n
  pub least_is : AreCharged (text_graph (text_of image) code) l (weights_of power (text_of image) code sites) least
  pub added : IsAnalyzed (text_graph (text_of image) code) l extent (extra_site_weights (text_of image) code (costs_of power) sites) more
  pub tables : AreTablesOf power (text_of image) code l sites is_of n least
  pub worst : n.worst 0 * period power start ≤ power.deadline

-- The same with a budget for each level: the tables keep it, and the worst cycles at the starting level are within its budget.
pub record IsBudgeted (power : PowerModel) (budget : ℕ → ℕ) (image patched : Image) (limits : ℕ → ℕ) (sites : List Site) (start : ℕ)
    (code : Code) (l : Loops) (extent : ℕ → ℕ → Bool) (is_of : ℕ → ℕ → Bool) (n : Numbers) (least : Charged) (more : Numbers) : Type 0 where
  pub power_is : IsPowerModel power
  pub patched_is : IsPatched image patched (length power.levels) limits sites start
  pub program : IsProgramOf (text_of image) code l extent
  pub counters : AreCounterWords (text_graph (text_of image) code) l limits is_of
  pub counted : AreCounted (text_of image) code l sites is_of
  pub analyzed : IsAnalyzed (text_graph (text_of image) code) l extent (weights_of power (text_of image) code sites) n
  pub least_is : AreCharged (text_graph (text_of image) code) l (weights_of power (text_of image) code sites) least
  pub added : IsAnalyzed (text_graph (text_of image) code) l extent (extra_site_weights (text_of image) code (costs_of power) sites) more
  pub tables : AreTablesWithin power budget (text_of image) code l sites is_of n least
  pub budgets : AreBudgets power budget start (n.worst 0)

-- what a run of it is, whose original is kept up to a step
pub record IsTunedRun (power : PowerModel) (image patched : Image) (sites : List Site) (start : ℕ) (code : Code) (l : Loops)
    (is_of : ℕ → ℕ → Bool) (n more : Numbers) (input : List ℕ) (steps : ℕ) (c : Carried) : Type 0 where
  pub followed : IsKeptPatched image patched (length power.levels) sites start input code l is_of (costs_of power) steps c
  pub paid : IsPaidRun power (text_of image) code l sites start n followed.kept.moves
      (run_of patched (length power.levels) input followed.followed.after).steps
  pub starts : starting_level (length power.levels) patched.keyed_segment ≡ start
  -- the ending and the output
  pub standing : (run_of patched (length power.levels) input followed.followed.after).standing ≡
      (run_of image (length power.levels) input steps).standing
  pub output : (run_of patched (length power.levels) input followed.followed.after).state.output ≡
      (run_of image (length power.levels) input steps).state.output
  -- no fewer steps, and not many more
  pub not_fewer : length (run_of image (length power.levels) input steps).steps ≤ length
      (run_of patched (length power.levels) input followed.followed.after).steps
  pub not_more : length (run_of patched (length power.levels) input followed.followed.after).steps ≤ length
      (run_of image (length power.levels) input steps).steps + more.worst 0
  pub cycles : stepped_cycles (costs_of power) (run_of patched (length power.levels) input followed.followed.after).steps ≤ stepped_cycles
      (costs_of power) (run_of image (length power.levels) input steps).steps + more.worst 0
  -- in time, never rising, and no more energy
  pub time : (price power start (run_of patched (length power.levels) input followed.followed.after).steps).time ≤ power.deadline
  pub falls : NeverRises start (run_of patched (length power.levels) input followed.followed.after).steps
  pub energy : (status : ℕ) → (run_of image (length power.levels) input steps).standing ≡ HasExited status
      → let numbers = price power start (run_of patched (length power.levels) input followed.followed.after).steps in
      numbers.energy ≤ held_energy power numbers
