use Rattle.std.proofs.Common.{◌∙◌}
use Rattle.walk_checks.proofs.Seen.{holder_seen}
use Rattle.walk_checks.proofs.rows.holder_at.Goals as goal

pub returns : goal.returns
returns c = c.holder_row.ensures ∙ holder_seen c.args.case.now c.requires.case c.args.k c.requires.node
