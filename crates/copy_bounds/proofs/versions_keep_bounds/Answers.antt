use Rattle.copy_bounds.proofs.Law.{exits_kept, keep_bounds}
use Rattle.copy_bounds.proofs.versions_keep_bounds.Goals as goal

pub returns-clause-kept : goal.returns-clause-kept
returns-clause-kept c = keep_bounds

pub returns-clause-exits : goal.returns-clause-exits
returns-clause-exits c = exits_kept
