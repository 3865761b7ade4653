use Rattle.graph_runs.proofs.LessKept.{kept_by_less}
use Rattle.graph_runs.proofs.kept_runs_are_kept_by_less.Goals as goal

pub returns : goal.returns
returns c = kept_by_less
