use Rattle.std.proofs.Common.{◌∙◌}
use Rattle.lower_bounds.proofs.Seen.{quiet_seen}
use Rattle.lower_bounds.proofs.rows.is_quiet.Goals as goal

pub returns : goal.returns
returns c = c.quiet_row.ensures ∙ quiet_seen c.args.case.now.claim.now c.args.case.now.table.now c.requires.case.claim c.requires.case.sized c.args.k c.requires.node
