-- What a survey that was made says of bounds and of what `rewrite` stores.
use Rattle.std.proofs.Common.{ℕ, ◌≤◌, List, length, map, Result, Ok, Err}
use Rattle.std.specs.Prelude.{IfOk}
use Rattle.scale_base.specs.declared.refusal.Stop.{Stop}
use Rattle.scale_base.specs.Answer.{AnswersBy}
use Rattle.power_model.specs.declared.survey.SurveyReport.{SurveyReport}
use Rattle.power_model.specs.Survey.{survey_view, line_view}
use Rattle.input_survey.specs.Surveyed.{IsSurveyed}
use Rattle.input_survey.specs.Bounds.{MostIsEnough, MostIsNeeded}
use Rattle.input_survey.specs.Promised.{LinesArePromised}
use Rattle.input_survey.proofs.Went.{went_through}
use Rattle.input_survey.proofs.Saying.{bounds_enough, bounds_needed, lines_keep}

pub enough : (image scaled machine loops : List ℕ) (inputs : List (List ℕ)) (result : Result SurveyReport Stop) → AnswersBy survey_view result (IsSurveyed image scaled machine loops inputs) →
    IfOk result (λ survey. MostIsEnough image machine loops inputs survey.most.items)
enough image scaled machine loops inputs (Ok r) h = bounds_enough image scaled machine loops inputs (survey_view r) (went_through image scaled machine loops inputs (survey_view r) h)
enough image scaled machine loops inputs (Err stop) h = tt

pub needed : (image scaled machine loops : List ℕ) (inputs : List (List ℕ)) (result : Result SurveyReport Stop) → AnswersBy survey_view result (IsSurveyed image scaled machine loops inputs) →
    IfOk result (λ survey. MostIsNeeded image machine loops inputs survey.most.items)
needed image scaled machine loops inputs (Ok r) h = bounds_needed image scaled machine loops inputs (survey_view r) (went_through image scaled machine loops inputs (survey_view r) h)
needed image scaled machine loops inputs (Err stop) h = tt

pub promised : (image scaled machine loops : List ℕ) (inputs : List (List ℕ)) (result : Result SurveyReport Stop) → length image ≤ 4194304 → length machine ≤ 1048576 → length loops ≤ 1048576 →
    AnswersBy survey_view result (IsSurveyed image scaled machine loops inputs) → IfOk result (λ survey. LinesArePromised image scaled machine loops (map line_view survey.lines.items))
promised image scaled machine loops inputs (Ok r) si sm sl h = lines_keep image scaled machine loops inputs (survey_view r) (went_through image scaled machine loops inputs (survey_view r) h) si sm sl
promised image scaled machine loops inputs (Err stop) si sm sl h = tt
