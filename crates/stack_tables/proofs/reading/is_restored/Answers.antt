use Rattle.std.proofs.Common.{◌∙◌}
use Rattle.stack_tables.proofs.Seen.{restored_seen}
use Rattle.stack_tables.proofs.reading.is_restored.Goals as goal

pub returns : goal.returns
returns c = c.restored_row.ensures ∙ restored_seen c.args.claim.now c.args.k c.owner.result c.args.r c.owner.ensures.owner
