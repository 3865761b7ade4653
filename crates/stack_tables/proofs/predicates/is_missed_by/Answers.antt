use Rattle.stack_tables.proofs.Public.{missed_so}
use Rattle.stack_tables.proofs.predicates.is_missed_by.Goals as goal

pub returns : goal.returns
returns c so a at = missed_so c.args.claim.now c.args.i c.args.k c.args.word (c.is_missed.ensures so) a at
