-- Scaffold: the same by what an image is fitted to.
use Rattle.std.specs.Prelude.{ℕ, Bool, List, map, Option}
use Rattle.pace_fit.specs.declared.fitting.Fitted.{Fitted}
use Rattle.versioned_images.specs.declared.versions.Version.{Version}
use Rattle.version_fits.specs.declared.choosing.Best.{Best}
use Rattle.version_fits.specs.declared.choosing.ChosenVersion.{ChosenVersion}
use Rattle.version_fits.specs.declared.goal.FitGoal.{FitGoal}
use Rattle.version_fits.specs.Given.{given_file}
use Rattle.version_fits.specs.Chosen as chosen

abbrev pub goal_inputs : FitGoal → List (List ℕ)
goal_inputs goal = map (λ input. input.items) goal.inputs.now

abbrev pub IsFitBy : FitGoal → (image loops : List ℕ) → List Bool → Fitted → Type 0
IsFitBy goal image loops flags fitted = chosen.IsFitBy image goal.machine.now loops (goal_inputs goal) flags fitted

abbrev pub IsLoopFile : FitGoal → (plain file : List ℕ) → Type 0
IsLoopFile goal plain file = chosen.IsLoopFile plain goal.most (given_file goal.given) file

abbrev pub IsLoopFileOf : FitGoal → (plain : List ℕ) → Version → (file : List ℕ) → Type 0
IsLoopFileOf goal plain version file = chosen.IsLoopFileOf plain goal.most (given_file goal.given) version file

abbrev pub IsPlainFit : FitGoal → (plain : List ℕ) → List Bool → Fitted → Type 0
IsPlainFit goal plain flags fitted = chosen.IsPlainFit plain goal.machine.now goal.most (given_file goal.given) (goal_inputs goal) flags fitted

abbrev pub IsVersionFit : FitGoal → (plain : List ℕ) → Version → (loops : List ℕ) → List Bool → Fitted → Type 0
IsVersionFit goal plain version loops flags fitted =
    chosen.IsVersionFit plain goal.machine.now goal.most (given_file goal.given) (goal_inputs goal) version loops flags fitted

abbrev pub IsChosenVersion : FitGoal → (plain : List ℕ) → ChosenVersion → Type 0
IsChosenVersion goal plain made = chosen.IsChosenVersion plain goal.machine.now goal.most (given_file goal.given) (goal_inputs goal) made

abbrev pub IsBest : FitGoal → (plain : List ℕ) → Fitted → Best → Type 0
IsBest goal plain without best = chosen.IsBest plain goal.machine.now goal.most (given_file goal.given) (goal_inputs goal) without best
