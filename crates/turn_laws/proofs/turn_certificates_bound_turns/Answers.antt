use Rattle.turn_laws.proofs.Counts.{turns_bound}
use Rattle.turn_laws.proofs.turn_certificates_bound_turns.Goals as goal

pub returns : goal.returns
returns c = turns_bound
