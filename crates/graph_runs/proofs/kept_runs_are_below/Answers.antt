use Rattle.graph_runs.proofs.Programs.{runs_are_below, image_runs_are_below}
use Rattle.graph_runs.proofs.kept_runs_are_below.Goals as goal

pub returns-clause-run : goal.returns-clause-run
returns-clause-run c = runs_are_below

pub returns-clause-image : goal.returns-clause-image
returns-clause-image c = image_runs_are_below
