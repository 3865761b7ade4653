-- The most back edges that an entry of a loop takes in the runs of an image over a list of inputs, whatever bounds are noted.
use Rattle.std.specs.Prelude.{◌≡◌, ◌⊎◌, ℕ, ◌<◌, ◌≤◌, List, length, map, Contains}
use Rattle.scale_base.specs.Image.{Image}
use Rattle.scale_base.specs.Run.{setting_of, start_of}
use Rattle.power_model.specs.Numbers.{PowerModel}
use Rattle.loop_file.specs.declared.notes.LoopNote.{LoopNote}
use Rattle.loop_file.specs.Notes.{relaxed_note}
use Rattle.keep_monitor.specs.Reached.{ReachesCount}

-- The step after the first n of the run of an image with an input reaches this count of a loop, where each bound is the greatest and no loop has to turn before it is
-- left: the run has broken nothing yet, and the step keeps the rules on calls and returns.
abbrev pub ReachesAt : PowerModel → Image → List LoopNote → List ℕ → (n k count : ℕ) → Type 0
ReachesAt power image notes input n k count =
    ReachesCount (setting_of image (length power.levels) input) (start_of image (length power.levels)) (map relaxed_note notes) n k count

-- one of the listed runs reaches this count of a loop with one of its first steps, as many as the machine file says
pub record IsCountReached (power : PowerModel) (image : Image) (notes : List LoopNote) (inputs : List (List ℕ)) (k count : ℕ) : Type 0 where
  pub input : List ℕ
  pub listed : Contains inputs input
  pub after : ℕ
  pub before : after < power.steps
  pub reaches : ReachesAt power image notes input after k count

-- The greatest count of a loop that the runs reach, each up to its end, its first break or its last step: each count that is reached is at most that, and it is
-- reached itself, or it is 0, at which each count begins.
pub record IsMost (power : PowerModel) (image : Image) (notes : List LoopNote) (inputs : List (List ℕ)) (k most : ℕ) : Type 0 where
  pub bound : (count : ℕ) → IsCountReached power image notes inputs k count → count ≤ most
  pub reached : (most ≡ 0) ⊎ IsCountReached power image notes inputs k most
