-- How the run of a rewritten image follows that of the original, on every input: it meets it behind each step that is kept, it ends as it does, and it is in time
-- and never faster than before all along.
use Rattle.std.specs.Prelude.{◌≡◌, ◌≢◌, ℕ, ◌+◌, ◌-◌, ◌*◌, ◌<◌, ◌≤◌, true, List, map, length, slice_index, Some}
use Rattle.std.specs.List.{sum_by}
use Rattle.scale_base.specs.Image.{Image}
use Rattle.scale_base.specs.Layout.{layout_of}
use Rattle.scale_base.specs.Run.{Run, Standing, GoesOn, HasExited, HasTrapped, run_of, starting_level}
use Rattle.power_model.specs.Numbers.{PowerModel}
use Rattle.power_model.specs.Price.{held_energy}
use Rattle.loop_file.specs.declared.notes.LoopNote.{LoopNote}
use Rattle.loop_file.specs.Kept.{noted_loops}
use Rattle.graph_runs.specs.KeptRuns.{IsKeptUpTo, kept_of}
use Rattle.cost_theory.specs.Worst.{Numbers}
use Rattle.cost_theory.specs.Steps as steps
use Rattle.graph_runs.specs.KeptSteps.{Carried}
use Rattle.flow_graph.specs.FlowGraph.{FlowGraph, graph}
use Rattle.loop_forest.specs.Tree.{LoopView, loops}
use Rattle.stub_writer.specs.Fragments.{IsShadow}
use Rattle.stored_runs.specs.Legs.{Meets}
use Rattle.stored_runs.specs.Laws.{text_steps}
use Rattle.paid_runs.specs.Shadows.{is_within_loop}
use Rattle.power_model.specs.Switches.{period, NeverRises, switches_from, saved, fee, AllPay}
use Rattle.rewritten_runs.specs.Prices.{price_of}
use Rattle.rewritten_runs.specs.Stubs.{is_counted, counter_of}

-- ---- meetings

-- Where a kept run that goes on stands in the graph of its program: at the node of its pc, in the calls whose return addresses it carries, with its counts.
abbrev pub graph_place : Run → Carried → steps.GraphState
graph_place r c = record { node = Some r.state.pc; calls = map (λ a. a - 4) c.returns; counts = c.counts }

-- The shadow counter of each counted loop round the node, or round the site of a suspended call, holds the loop's count, and every other shadow counter is 0.
pub record ShowsCounts (v : FlowGraph) (t : LoopView) (place : steps.GraphState) (window : List ℕ) : Type 0 where
  pub counts : (k : ℕ) → k < (loops v t).loops → is_counted t k ≡ true → is_within_loop (loops v t) k place ≡ true →
      slice_index window (counter_of t k) ≡ place.counts k
  pub others : (w : ℕ) → IsShadow w → ((k : ℕ) → k < (loops v t).loops → is_counted t k ≡ true →
      is_within_loop (loops v t) k place ≡ true → counter_of t k ≢ w) → slice_index window w ≡ 0

-- the stored run after so many steps meets the original after n: n of its steps were fetched outside the keyed segment
pub record IsMeeting (original stored : Image) (levels : ℕ) (v : FlowGraph) (t : LoopView) (input : List ℕ) (n : ℕ) (c : Carried)
    (after : ℕ) : Type 0 where
  pub goes_on : (run_of stored levels input after).standing ≡ GoesOn
  pub text : length (text_steps (run_of stored levels input after).steps) ≡ n
  pub states : Meets (layout_of stored) (run_of original levels input n).state (run_of stored levels input after).state
  pub counters : ShowsCounts v t (graph_place (run_of original levels input n) c) (run_of stored levels input after).state.window

-- ---- behind each kept step

-- After n kept steps, if the run goes on: the two meet once, at most so many steps later. The time so far, and the cycles left at the level that the stored run has, are
-- in time.
pub record MeetsInTime (power : PowerModel) (original stored : Image) (v : FlowGraph) (t : LoopView) (w : ℕ → ℕ) (numbers : Numbers)
    (bound : ℕ) (input : List ℕ) (n : ℕ) (c : Carried) : Type 0 where
  pub after : ℕ
  pub from : n ≤ after
  pub to : after ≤ n + bound
  pub meeting : IsMeeting original stored (length power.levels) v t input n c after
  pub once : (other : ℕ) → IsMeeting original stored (length power.levels) v t input n c other → other ≡ after
  pub cycles : (price_of power stored input after).cycles ≤ (price_of power original input n).cycles + bound
  pub time_left : (price_of power stored input after).time
      + steps.cycles_left (graph v) (loops v t) w numbers (graph_place (run_of original (length power.levels) input n) c) * period power
      (price_of power stored input after).level ≤ power.deadline

-- ---- at the end

abbrev pub HasEnded : Standing → Type 0
HasEnded GoesOn = ⊥
HasEnded (HasExited status) = Unit {0}
HasEnded (HasTrapped trap) = Unit {0}

-- Where the switches of a run pay: held energy less energy is the sum, over the switches, of the cycles after each times the drop in energy per cycle, less the
-- switch's own energy, and no term of the sum is negative.
pub record SwitchesPay (power : PowerModel) (stored : Image) (input : List ℕ) (after : ℕ) : Type 0 where
  pub sum : held_energy power (price_of power stored input after)
      + sum_by (fee power) (switches_from power (starting_level (length power.levels) stored.keyed_segment)
      (run_of stored (length power.levels) input after).steps)
      ≡ (price_of power stored input after).energy
      + sum_by (saved power) (switches_from power (starting_level (length power.levels) stored.keyed_segment)
      (run_of stored (length power.levels) input after).steps)
  pub terms : AllPay power (switches_from power (starting_level (length power.levels) stored.keyed_segment)
      (run_of stored (length power.levels) input after).steps)

-- Once the original has ended after kept steps, by exit or by trap, the stored run ends in the same way with the same output, at most so many steps later. It is in time, and no
-- step of it leaves a higher level than was there before it; and where it exits its switches pay.
pub record EndsInTime (power : PowerModel) (original stored : Image) (bound : ℕ) (input : List ℕ) (n : ℕ) : Type 0 where
  pub after : ℕ
  pub from : n ≤ after
  pub to : after ≤ n + bound
  pub standing : (run_of stored (length power.levels) input after).standing ≡ (run_of original (length power.levels) input n).standing
  pub output : (run_of stored (length power.levels) input after).state.output ≡ (run_of original (length power.levels) input n).state.output
  pub steps_from : length (run_of original (length power.levels) input n).steps ≤ length
      (run_of stored (length power.levels) input after).steps
  pub steps_to : length (run_of stored (length power.levels) input after).steps ≤ length
      (run_of original (length power.levels) input n).steps + bound
  pub cycles : (price_of power stored input after).cycles ≤ (price_of power original input n).cycles + bound
  pub in_time : (price_of power stored input after).time ≤ power.deadline
  pub falls : NeverRises (starting_level (length power.levels) stored.keyed_segment) (run_of stored (length power.levels) input after).steps
  pub pays : (status : ℕ) → (run_of original (length power.levels) input n).standing ≡ HasExited status →
      SwitchesPay power stored input after

-- ---- all together

-- on every input, for every number of steps up to which the original run is kept
pub record FollowsInTime (power : PowerModel) (original stored : Image) (notes : List LoopNote) (v : FlowGraph) (t : LoopView) (w : ℕ → ℕ)
    (plain numbers : Numbers) (bound : ℕ) : Type 0 where
  -- it has taken at most the worst cycles under the plain weights, so each run that stays kept ends
  pub cycles : (input : List ℕ) (n : ℕ) → IsKeptUpTo original (length power.levels) input (noted_loops notes) n →
      (price_of power original input n).cycles ≤ plain.worst 0
  pub ends : (input : List ℕ) (n : ℕ) → IsKeptUpTo original (length power.levels) input (noted_loops notes) n →
      (run_of original (length power.levels) input n).standing ≡ GoesOn → n ≤ plain.worst 0
  pub meets : (input : List ℕ) (n : ℕ) (c : Carried) → kept_of original (length power.levels) input (noted_loops notes) n ≡ Some c →
      (run_of original (length power.levels) input n).standing ≡ GoesOn
      → MeetsInTime power original stored v t w numbers bound input n c
  pub ended : (input : List ℕ) (n : ℕ) → IsKeptUpTo original (length power.levels) input (noted_loops notes) n →
      HasEnded (run_of original (length power.levels) input n).standing
      → EndsInTime power original stored bound input n
