use Rattle.stack_tables.proofs.Public.{safe_so}
use Rattle.stack_tables.proofs.predicates.is_safe_at.Goals as goal

pub returns : goal.returns
returns c so a b at_u at_h = safe_so c.args.claim.now c.args.u c.args.h c.args.word (c.is_safe.ensures so) a b at_u at_h
