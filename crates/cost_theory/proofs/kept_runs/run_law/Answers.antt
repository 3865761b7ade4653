use Rattle.cost_theory.proofs.StepLaws.{run-within}
use Rattle.cost_theory.proofs.Runs.{run-worst}
use Rattle.cost_theory.proofs.kept_runs.run_law.Goals as goal

pub returns-clause-run : goal.returns-clause-run
returns-clause-run c = λ g l extent w n is. run-within g l extent w n is

pub returns-clause-cycles : goal.returns-clause-cycles
returns-clause-cycles c = λ g l extent w n is. run-worst g l extent w n is.program is.accepted is.weights is.numbers
