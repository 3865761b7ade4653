use Rattle.std.proofs.Common.{◌∙◌}
use Rattle.stack_tables.proofs.Seen.{spared_seen}
use Rattle.stack_tables.proofs.reading.is_spared.Goals as goal

pub returns : goal.returns
returns c j = c.spared_row.ensures ∙ spared_seen c.args.claim.now c.requires.claim c.args.k j c.requires.node
