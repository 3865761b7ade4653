use Rattle.cycle_laws.proofs.PlainPaths.{worst_plain, plain_within_worst}
use Rattle.cycle_laws.proofs.worst_from_plain.Goals as goal

pub returns-clause-of_function : goal.returns-clause-of_function
returns-clause-of_function c = worst_plain

pub returns-clause-within : goal.returns-clause-within
returns-clause-within c = plain_within_worst
