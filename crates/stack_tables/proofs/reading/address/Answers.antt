use Rattle.stack_tables.proofs.Seen.{address_is}
use Rattle.stack_tables.proofs.reading.address.Goals as goal

pub returns : goal.returns
returns c = address_is c.args.claim.now c.args.k c.node.result c.node.ensures
