use Rattle.stack_tables.proofs.Seen.{offset_seen}
use Rattle.stack_tables.proofs.reading.offset.Goals as goal

pub returns-clause-offset : goal.returns-clause-offset
returns-clause-offset c = offset_seen c.args.claim.now c.args.number c.from.result c.opposite_of.result c.from.ensures c.opposite_of.ensures.opposite
