use Rattle.graph_runs.proofs.ExampleImage.{hypotheses_are_met}
use Rattle.graph_runs.proofs.hypotheses_are_met.Goals as goal

pub returns : goal.returns
returns c = hypotheses_are_met
