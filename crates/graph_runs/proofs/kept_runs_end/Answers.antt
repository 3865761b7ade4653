use Rattle.graph_runs.proofs.Programs.{kept_runs_end, image_runs_end}
use Rattle.graph_runs.proofs.kept_runs_end.Goals as goal

pub returns-clause-run : goal.returns-clause-run
returns-clause-run c = kept_runs_end

pub returns-clause-image : goal.returns-clause-image
returns-clause-image c = image_runs_end
