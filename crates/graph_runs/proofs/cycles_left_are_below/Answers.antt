use Rattle.graph_runs.proofs.Programs.{cycles_left_are_below}
use Rattle.graph_runs.proofs.cycles_left_are_below.Goals as goal

pub returns : goal.returns
returns c = cycles_left_are_below
