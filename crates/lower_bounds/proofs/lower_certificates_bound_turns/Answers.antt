use Rattle.lower_bounds.proofs.Counts.{left_late}
use Rattle.lower_bounds.proofs.lower_certificates_bound_turns.Goals as goal

pub returns : goal.returns
returns c = left_late
