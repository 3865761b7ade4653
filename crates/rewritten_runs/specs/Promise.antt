-- What a rewritten image promises: on every input on which the original run exits, and keeps the bounds of its loops and its return addresses, the stored run gives
-- the same output and the same status, ends by the deadline, never raises its level, takes no more energy than its own cycles at its starting level, and adds at most
-- the printed number of cycles.
-- It needs no more than the image of a file, the step and the run of a machine, the price of a run, and what keeps the notes of loops.
use Rattle.std.specs.Prelude.{◌≡◌, ℕ, ◌+◌, ◌<◌, ◌≤◌, List, length}
use Rattle.scale_base.specs.Image.{Image}
use Rattle.scale_base.specs.Run.{HasExited, run_of, starting_level}
use Rattle.power_model.specs.Numbers.{PowerModel}
use Rattle.power_model.specs.Price.{held_energy}
use Rattle.loop_file.specs.declared.notes.LoopNote.{LoopNote}
use Rattle.graph_runs.specs.KeptRuns.{IsKeptUpTo}
use Rattle.power_model.specs.Switches.{NeverRises}
use Rattle.rewritten_runs.specs.Prices.{price_of}
use Rattle.loop_file.specs.Kept.{noted_loops}

-- The original run on an input has exited with a status after n steps; the stored run so exits too, at most so many steps later.
pub record EndsAsPromised (power : PowerModel) (original stored : Image) (bound : ℕ) (input : List ℕ) (n status : ℕ) : Type 0 where
  pub after : ℕ
  pub from : n ≤ after
  pub to : after ≤ n + bound
  pub exits : (run_of stored (length power.levels) input after).standing ≡ HasExited status
  pub output : (run_of stored (length power.levels) input after).state.output ≡ (run_of original (length power.levels) input n).state.output
  -- it completes as many steps as the original run, and at most so many more; and its cycles are at most so many more
  pub steps_from : length (run_of original (length power.levels) input n).steps ≤ length
      (run_of stored (length power.levels) input after).steps
  pub steps_to : length (run_of stored (length power.levels) input after).steps ≤ length
      (run_of original (length power.levels) input n).steps + bound
  pub cycles : (price_of power stored input after).cycles ≤ (price_of power original input n).cycles + bound
  -- its level at the start is one of the machine's; stubs and switches are counted
  pub is_level : starting_level (length power.levels) stored.keyed_segment < length power.levels
  pub in_time : (price_of power stored input after).time ≤ power.deadline
  pub falls : NeverRises (starting_level (length power.levels) stored.keyed_segment) (run_of stored (length power.levels) input after).steps
  pub energy : (price_of power stored input after).energy ≤ held_energy power (price_of power stored input after)

-- on every input
abbrev pub KeepsThePromise : PowerModel → Image → List LoopNote → Image → ℕ → Type 0
KeepsThePromise power original notes stored bound = (input : List ℕ) (n status : ℕ)
    → IsKeptUpTo original (length power.levels) input (noted_loops notes) n →
    (run_of original (length power.levels) input n).standing ≡ HasExited status
    → EndsAsPromised power original stored bound input n status
