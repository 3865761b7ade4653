use Rattle.bound_laws.proofs.Keeping.{returns_kept, kept_by_returns, found_kept}
use Rattle.bound_laws.proofs.found_bounds_are_kept.Goals as goal

pub returns-clause-returns : goal.returns-clause-returns
returns-clause-returns c = returns_kept

pub returns-clause-all : goal.returns-clause-all
returns-clause-all c = kept_by_returns

pub returns-clause-found : goal.returns-clause-found
returns-clause-found c = found_kept
