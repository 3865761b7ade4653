use Rattle.std.proofs.Common.{◌∙◌}
use Rattle.stack_tables.proofs.Seen.{doubtful_seen}
use Rattle.stack_tables.proofs.reading.is_doubtful.Goals as goal

pub returns : goal.returns
returns c = c.doubtful_row.ensures ∙ doubtful_seen c.args.claim.now c.requires.claim c.args.k c.requires.node
