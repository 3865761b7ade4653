use Rattle.bound_laws.proofs.TurningRuns.{bound_turns}
use Rattle.bound_laws.proofs.certificates_bound_turns.Goals as goal

pub returns : goal.returns
returns c = bound_turns
