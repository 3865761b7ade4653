use Rattle.std.proofs.Common.{◌∙◌}
use Rattle.stack_tables.proofs.Seen.{live_seen}
use Rattle.stack_tables.proofs.reading.is_live.Goals as goal

pub returns : goal.returns
returns c = c.live_row.ensures ∙ live_seen c.args.claim.now c.requires.claim c.args.k c.requires.node
