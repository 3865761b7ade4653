use Rattle.std.proofs.Common.{◌∙◌}
use Rattle.stack_tables.proofs.Seen.{kept_seen}
use Rattle.stack_tables.proofs.reading.is_kept.Goals as goal

pub returns : goal.returns
returns c = c.kept_row.ensures ∙ kept_seen c.args.claim.now c.args.k c.owner.result c.args.number c.owner.ensures.owner
