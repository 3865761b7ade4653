use Rattle.cost_theory.proofs.StepLaws.{step-lowers, step-along, step-call}
use Rattle.cost_theory.proofs.Runs.{left_start}
use Rattle.cost_theory.proofs.kept_runs.step_law.Goals as goal

pub returns-clause-start : goal.returns-clause-start
returns-clause-start c = λ g l extent w n is. left_start g l extent w n is.program is.accepted is.weights is.numbers

pub returns-clause-step : goal.returns-clause-step
returns-clause-step c = λ g l extent w n is. step-lowers g l extent w n is

pub returns-clause-along : goal.returns-clause-along
returns-clause-along c = λ g l extent w n is. step-along g l extent w n is

pub returns-clause-call : goal.returns-clause-call
returns-clause-call c = λ g l extent w n is. step-call g l extent w n is
