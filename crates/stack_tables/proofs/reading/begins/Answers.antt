use Rattle.std.proofs.Common.{◌∙◌}
use Rattle.stack_tables.proofs.Seen.{begins_seen}
use Rattle.stack_tables.proofs.reading.begins.Goals as goal

pub returns-clause-begins : goal.returns-clause-begins
returns-clause-begins c = c.begins_row.ensures.begins ∙ begins_seen c.args.claim.now c.args.k c.owner.result c.owner.ensures.owner
