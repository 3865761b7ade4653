use Rattle.stack_laws.proofs.Returning.{runs_come_back}
use Rattle.stack_laws.proofs.Bounds.{runs_kept}
use Rattle.stack_laws.proofs.runs_are_kept.Goals as goal

pub returns-clause-returns : goal.returns-clause-returns
returns-clause-returns c = runs_come_back

pub returns-clause-kept : goal.returns-clause-kept
returns-clause-kept c = runs_kept
