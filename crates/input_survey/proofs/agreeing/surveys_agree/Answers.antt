use Rattle.input_survey.proofs.SameSurveys.{surveyed_answers}
use Rattle.input_survey.proofs.agreeing.surveys_agree.Goals as goal

pub returns : goal.returns
returns c = surveyed_answers
