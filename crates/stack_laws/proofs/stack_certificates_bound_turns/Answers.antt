use Rattle.stack_laws.proofs.Counts.{stacks_bound_turns}
use Rattle.stack_laws.proofs.stack_certificates_bound_turns.Goals as goal

pub returns : goal.returns
returns c = stacks_bound_turns
