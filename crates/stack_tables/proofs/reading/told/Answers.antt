use Rattle.std.proofs.Common.{◌∙◌}
use Rattle.stack_tables.specs.Tables.{address}
use Rattle.stack_tables.proofs.Seen.{told_rows_seen, told_seen}
use Rattle.stack_tables.proofs.reading.told.Goals as goal

pub returns-clause-told : goal.returns-clause-told
returns-clause-told c j = told_seen c.args.claim.now (address c.args.claim.now c.args.k) j c.told_row.result.now (c.told_row.ensures.row ∙ told_rows_seen c.args.claim.now c.requires.claim c.args.k c.requires.node)
