use Rattle.std.proofs.Common.{◌∙◌}
use Rattle.turn_checks.proofs.Seen.{quiet_seen}
use Rattle.turn_checks.proofs.rows.is_quiet.Goals as goal

pub returns : goal.returns
returns c = c.quiet_row.ensures ∙ quiet_seen c.args.claim.now c.args.table.now c.requires.claim c.requires.sized c.args.k c.requires.node
