use Rattle.input_survey.proofs.Saying.{surveyed_says}
use Rattle.input_survey.proofs.agreeing.surveys_say_of_runs.Goals as goal

pub returns : goal.returns
returns c = surveyed_says
