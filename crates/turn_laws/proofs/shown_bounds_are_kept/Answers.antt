use Rattle.turn_laws.proofs.Bounds.{shown_kept, shown_by_returns, runs_kept}
use Rattle.turn_laws.proofs.shown_bounds_are_kept.Goals as goal

pub returns-clause-shown : goal.returns-clause-shown
returns-clause-shown c = shown_kept

pub returns-clause-all : goal.returns-clause-all
returns-clause-all c = shown_by_returns

pub returns-clause-kept : goal.returns-clause-kept
returns-clause-kept c = runs_kept
