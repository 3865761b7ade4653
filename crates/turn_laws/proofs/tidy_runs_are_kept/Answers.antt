use Rattle.turn_laws.proofs.Bounds.{tidy_bounds, tidy_runs}
use Rattle.turn_laws.proofs.tidy_runs_are_kept.Goals as goal

pub returns-clause-bounds : goal.returns-clause-bounds
returns-clause-bounds c = tidy_bounds

pub returns-clause-kept : goal.returns-clause-kept
returns-clause-kept c = tidy_runs
