use Rattle.stack_tables.proofs.Public.{name_so}
use Rattle.stack_tables.proofs.predicates.name_at.Goals as goal

pub returns : goal.returns
returns c a at = name_so c.args.claim.now c.args.k c.args.r _ c.name_of.ensures a at
