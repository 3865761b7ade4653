use Rattle.stack_tables.proofs.Public.{live_so}
use Rattle.stack_tables.proofs.predicates.is_live_at.Goals as goal

pub returns : goal.returns
returns c a at = live_so c.args.claim.now c.args.k c.is_live.result c.is_live.ensures a at
