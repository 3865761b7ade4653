use Rattle.input_survey.proofs.Consequences.{enough, needed, promised}
use Rattle.input_survey.proofs.surveying.survey_with_progress.Goals as goal

pub returns-clause-enough : goal.returns-clause-enough
returns-clause-enough g c = enough c.args.files.now.image.now c.args.files.now.scaled.now c.args.files.now.machine.now c.args.files.now.loops.now _ c.survey_files.result c.survey_files.ensures

pub returns-clause-needed : goal.returns-clause-needed
returns-clause-needed g c = needed c.args.files.now.image.now c.args.files.now.scaled.now c.args.files.now.machine.now c.args.files.now.loops.now _ c.survey_files.result c.survey_files.ensures

pub returns-clause-promised : goal.returns-clause-promised
returns-clause-promised g c = promised c.args.files.now.image.now c.args.files.now.scaled.now c.args.files.now.machine.now c.args.files.now.loops.now _ c.survey_files.result c.requires.image c.requires.machine c.requires.loops c.survey_files.ensures
