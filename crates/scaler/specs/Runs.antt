-- What a held image promises: its runs are those of the original image, at one level, and those that keep the loops' bounds and the return
-- addresses end in time.
use Rattle.std.specs.Prelude.{◌≡◌, ℕ, ◌≤◌, List, length, Some, Ok}
use Rattle.scale_base.specs.declared.summary.Summary.{Summary}
use Rattle.scale_base.specs.Image.{Image, image_of}
use Rattle.scale_base.specs.Run.{Run, GoesOn, run_of}
use Rattle.power_model.specs.Numbers.{PowerModel, RunPrice}
use Rattle.power_model.specs.Price.{IsHeldPrice}
use Rattle.power_model.specs.Slowest.{slowest_of}
use Rattle.machine_file.specs.Machine.{read_machine}
use Rattle.loop_file.specs.declared.notes.LoopNote.{LoopNote}
use Rattle.loop_file.specs.Loops.{read_loops}
use Rattle.graph_runs.specs.KeptRuns.{IsKeptUpTo}
use Rattle.rewritten_runs.specs.Prices.{price_of}
use Rattle.loop_file.specs.Kept.{noted_loops}

-- the same steps, which led to states that differ in the window at most, and stand alike
pub record IsSameRun (one other : Run) : Type 0 where
  pub steps : other.steps ≡ one.steps
  pub standing : other.standing ≡ one.standing
  pub pc : other.state.pc ≡ one.state.pc
  pub regs : other.state.regs ≡ one.state.regs
  pub bytes : other.state.bytes ≡ one.state.bytes
  pub used : other.state.used ≡ one.state.used
  pub output : other.state.output ≡ one.state.output

-- on a machine of so many levels, on every input, after every number of steps
abbrev pub RunAlike : Image → Image → ℕ → Type 0
RunAlike original held levels = (input : List ℕ) (n : ℕ) → IsSameRun (run_of original levels input n) (run_of held levels input n)

-- a run that stays at the starting level, so that its time and its energy are those of its cycles there, with at most the printed cycles and the
-- printed time, which is in time
pub record IsAsPrinted (power : PowerModel) (summary : Summary) (paid : RunPrice) : Type 0 where
  pub cycles : paid.cycles ≤ summary.worst
  pub time : paid.time ≤ summary.time
  pub in_time : summary.time ≤ power.deadline
  pub at_start : IsHeldPrice power summary.start paid

-- as long as the run is kept
abbrev pub KeptAsPrinted : PowerModel → Image → List LoopNote → Image → Summary → Type 0
KeptAsPrinted power original notes held summary = (input : List ℕ) (n : ℕ)
    → IsKeptUpTo original (length power.levels) input (noted_loops notes) n → IsAsPrinted power summary (price_of power held input n)

-- A kept run that goes on has taken at most as many steps as the printed cycles are, so each run that stays kept ends.
abbrev pub KeptRunsEndAsPrinted : PowerModel → Image → List LoopNote → Image → Summary → Type 0
KeptRunsEndAsPrinted power original notes held summary = (input : List ℕ) (n : ℕ)
    → IsKeptUpTo original (length power.levels) input (noted_loops notes) n →
    (run_of held (length power.levels) input n).standing ≡ GoesOn → n ≤ summary.worst

-- The bytes of an image, of a machine file, of a loop file and of the stored image: the machine, the notes and the two images that they are.
-- The images' runs are alike, and those that are kept end in time.
pub record IsHeldSafely (image machine loops stored : List ℕ) (summary : Summary) : Type 0 where
  pub power : PowerModel
  pub original : Image
  pub notes : List LoopNote
  pub held : Image
  pub power_is : read_machine machine ≡ Ok power
  pub original_is : image_of image ≡ Ok original
  pub notes_are : read_loops original loops ≡ Ok notes
  pub held_is : image_of stored ≡ Ok held
  -- the printed level is the slowest at which the printed cycles are in time
  pub slow : slowest_of power summary.worst ≡ Some summary.start
  pub runs : RunAlike original held (length power.levels)
  pub kept : KeptAsPrinted power original notes held summary
  pub ends : KeptRunsEndAsPrinted power original notes held summary
