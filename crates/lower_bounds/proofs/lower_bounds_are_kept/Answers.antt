use Rattle.lower_bounds.proofs.Bounds.{lower_kept}
use Rattle.lower_bounds.proofs.lower_bounds_are_kept.Goals as goal

pub returns : goal.returns
returns c = lower_kept
