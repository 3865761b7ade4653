use Rattle.std.proofs.Common.{◌∙◌}
use Rattle.turn_checks.proofs.Seen.{used_seen}
use Rattle.turn_checks.proofs.rows.is_used.Goals as goal

pub returns : goal.returns
returns c = c.used_row.ensures ∙ used_seen c.args.claim.now c.args.table.now c.requires.claim c.requires.sized c.args.k c.requires.node
