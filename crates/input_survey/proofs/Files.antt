-- From the files to the survey: what stops, and what goes on.
use Rattle.std.proofs.Common.{◌≡◌, ℕ, List, length, Result, Ok, Err, refl}
use Rattle.scale_base.specs.declared.refusal.Refusal.{Refusal}
use Rattle.scale_base.specs.declared.refusal.Stop.{Stop}
use Rattle.scale_base.specs.Answer.{AnswersBy, Stops}
use Rattle.scale_base.specs.Image.{Image, image_of}
use Rattle.power_model.specs.declared.survey.SurveyReport.{SurveyReport}
use Rattle.power_model.specs.Survey.{Survey, survey_view}
use Rattle.loop_file.specs.declared.notes.LoopNote.{LoopNote}
use Rattle.loop_file.specs.Loops.{read_loops}
use Rattle.speed_sim.specs.Simulated.{level_allowed}
use Rattle.program_sources.specs.declared.reading.OriginalImage.{OriginalImage}
use Rattle.program_sources.specs.Sources.{original_of}
use Rattle.program_sources.proofs.Laws.{answers_go, answers_stop}
use Rattle.input_survey.specs.Surveyed.{IsSurvey, IsSurveyed}

-- what the survey answers, as it is seen
abbrev pub SurveyAnswers : Result SurveyReport Stop → (Result Survey Refusal → Type 0) → Type 0
SurveyAnswers result meant = AnswersBy survey_view result meant

module _ (image scaled machine loops : List ℕ) (inputs : List (List ℕ)) where
  pub original_stops : (stop : Stop) → Stops stop (original_of image machine) → SurveyAnswers (Err stop) (IsSurveyed image scaled machine loops inputs)
  unfolding IsSurveyed
  original_stops stop h = answers_stop survey_view (original_of image machine) _ stop h

  module _ (o : OriginalImage) (a : original_of image machine ≡ Ok o) where
    pub scaled_stops : (stop : Stop) → Stops stop (image_of scaled) → SurveyAnswers (Err stop) (IsSurveyed image scaled machine loops inputs)
    unfolding IsSurveyed
    scaled_stops stop h = answers_go survey_view (original_of image machine) o _ (Err stop) a (answers_stop survey_view (image_of scaled) _ stop h)

    module _ (other : Image) (b : image_of scaled ≡ Ok other) where
      pub level_stops : (stop : Stop) → Stops stop (level_allowed (length o.power.levels) other.keyed_segment) → SurveyAnswers (Err stop) (IsSurveyed image scaled machine loops inputs)
      unfolding IsSurveyed
      level_stops stop h = answers_go survey_view (original_of image machine) o _ (Err stop) a (answers_go survey_view (image_of scaled) other _ (Err stop) b (answers_stop survey_view (level_allowed (length o.power.levels) other.keyed_segment) _ stop h))

      module _ (c : level_allowed (length o.power.levels) other.keyed_segment ≡ Ok tt) where
        pub loops_stop : (stop : Stop) → Stops stop (read_loops o.view loops) → SurveyAnswers (Err stop) (IsSurveyed image scaled machine loops inputs)
        unfolding IsSurveyed
        loops_stop stop h = answers_go survey_view (original_of image machine) o _ (Err stop) a (answers_go survey_view (image_of scaled) other _ (Err stop) b
            (answers_go survey_view (level_allowed (length o.power.levels) other.keyed_segment) tt _ (Err stop) c (answers_stop survey_view (read_loops o.view loops) _ stop h)))

        pub survey_answers : (notes : List LoopNote) (report : SurveyReport) → read_loops o.view loops ≡ Ok notes → IsSurvey o.power o.view other notes inputs (survey_view report)
            → SurveyAnswers (Ok report) (IsSurveyed image scaled machine loops inputs)
        unfolding IsSurveyed
        survey_answers notes report d h = answers_go survey_view (original_of image machine) o _ (Ok report) a (answers_go survey_view (image_of scaled) other _ (Ok report) b
            (answers_go survey_view (level_allowed (length o.power.levels) other.keyed_segment) tt _ (Ok report) c (answers_go survey_view (read_loops o.view loops) notes _ (Ok report) d
            (record { survey = survey_view report; is = h; answer_is = refl }))))
