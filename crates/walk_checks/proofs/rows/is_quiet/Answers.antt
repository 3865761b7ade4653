use Rattle.std.proofs.Common.{◌∙◌}
use Rattle.walk_checks.proofs.Seen.{quiet_seen}
use Rattle.walk_checks.proofs.rows.is_quiet.Goals as goal

pub returns : goal.returns
returns c = c.quiet_row.ensures ∙ quiet_seen c.args.case.now c.requires.case c.args.k c.requires.node
