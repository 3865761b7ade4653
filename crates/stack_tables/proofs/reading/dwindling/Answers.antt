use Rattle.std.proofs.Common.{◌∙◌}
use Rattle.stack_tables.specs.Tables.{address}
use Rattle.stack_tables.proofs.Seen.{dwindling_rows_seen, dwindling_seen}
use Rattle.stack_tables.proofs.reading.dwindling.Goals as goal

pub returns-clause-dwindling : goal.returns-clause-dwindling
returns-clause-dwindling c j = dwindling_seen c.args.claim.now (address c.args.claim.now c.args.k) j c.dwindling_row.result.now (c.dwindling_row.ensures.row ∙ dwindling_rows_seen c.args.claim.now c.requires.claim c.args.k c.requires.node)
