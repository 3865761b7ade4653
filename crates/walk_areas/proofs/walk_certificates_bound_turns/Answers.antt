use Rattle.walk_areas.proofs.Counts.{walks_bound}
use Rattle.walk_areas.proofs.walk_certificates_bound_turns.Goals as goal

pub returns : goal.returns
returns c = walks_bound
