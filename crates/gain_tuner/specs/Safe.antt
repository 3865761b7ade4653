-- What the choice of a tuning keeps to: the stored image keeps the promise of a rewritten one, and on the inputs that count its runs take no more energy than those of
-- the image that runs at one level.
use Rattle.std.specs.Prelude.{ℕ, ◌≤◌, List, length, Ok}
use Rattle.scale_base.specs.declared.limits.TheConstants.{FILE_LIMIT, IMAGE_LIMIT}
use Rattle.scale_base.specs.declared.summary.Tuned.{Tuned}
use Rattle.marked_images.specs.Promise.{IsStoredSafely}
use Rattle.gain_tuner.specs.Choice.{IsTuning}

pub record IsTunedSafely (image machine loops stored : List ℕ) (tuned : Tuned) : Type 0 where
  pub safe : IsStoredSafely image machine loops stored tuned.summary
  pub saves : tuned.energy ≤ tuned.hold_energy

-- Each choice of a tuning of files that a program loads is safe. As a statement for the contract of a function.
abbrev pub TunedImagesAreSafe : Type 0
TunedImagesAreSafe = (image machine loops : List ℕ) (inputs : List (List ℕ)) (stored : List ℕ) (tuned : Tuned)
    → length image ≤ IMAGE_LIMIT →
    length machine ≤ FILE_LIMIT → length loops ≤ FILE_LIMIT →
    IsTuning image machine loops inputs (Ok ((stored, tuned))) → IsTunedSafely image machine loops stored tuned
