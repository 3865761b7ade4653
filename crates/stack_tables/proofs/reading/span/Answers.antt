use Rattle.std.proofs.Common.{◌∙◌}
use Rattle.stack_tables.proofs.Seen.{span_seen}
use Rattle.stack_tables.proofs.reading.span.Goals as goal

pub returns-clause-span : goal.returns-clause-span
returns-clause-span c = c.span_in_row.ensures.span ∙ span_seen c.args.claim.now c.requires.claim c.args.k c.args.r c.requires.node
