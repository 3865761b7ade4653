use Rattle.std.proofs.Common.{◌∙◌}
use Rattle.stack_tables.specs.Tables.{address}
use Rattle.stack_tables.proofs.Seen.{line_seen, lines_seen}
use Rattle.stack_tables.proofs.reading.lines.Goals as goal

pub returns-clause-lines : goal.returns-clause-lines
returns-clause-lines c j = line_seen c.args.claim.now (address c.args.claim.now c.args.k) j c.lines_row.result.now (c.lines_row.ensures.row ∙ lines_seen c.args.claim.now c.requires.claim c.args.k c.requires.node)
