-- What a survey says of the runs on its inputs: bounds that are the most that was reached are enough for them, lesser ones aren't, and where the scaled image is what
-- `rewrite` stores, each line keeps its promise.
use Rattle.std.specs.Prelude.{ℕ, ◌≤◌, List, length, Ok}
use Rattle.power_model.specs.Survey.{Survey}
use Rattle.input_survey.specs.Bounds.{MostIsEnough, MostIsNeeded}
use Rattle.input_survey.specs.Promised.{LinesArePromised}
use Rattle.input_survey.specs.Surveyed.{IsSurveyed}
use Rattle.scale_base.specs.declared.limits.TheConstants.{FILE_LIMIT, IMAGE_LIMIT}

pub record SaysOfRuns (image scaled machine loops : List ℕ) (inputs : List (List ℕ)) (survey : Survey) : Type 0 where
  pub enough : MostIsEnough image machine loops inputs survey.most
  pub needed : MostIsNeeded image machine loops inputs survey.most
  pub promised : LinesArePromised image scaled machine loops survey.lines

-- Each survey of files that a program loads says so. As a statement for the contract of a function.
abbrev pub SurveysSayOfRuns : Type 0
SurveysSayOfRuns = (image scaled machine loops : List ℕ) (inputs : List (List ℕ)) (survey : Survey) → length image ≤ IMAGE_LIMIT →
    length machine ≤ FILE_LIMIT → length loops ≤ FILE_LIMIT →
    IsSurveyed image scaled machine loops inputs (Ok survey) → SaysOfRuns image scaled machine loops inputs survey
