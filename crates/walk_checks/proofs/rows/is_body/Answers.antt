use Rattle.std.proofs.Common.{◌∙◌}
use Rattle.walk_checks.proofs.Seen.{body_seen}
use Rattle.walk_checks.proofs.rows.is_body.Goals as goal

pub returns : goal.returns
returns c = c.body_row.ensures ∙ body_seen c.args.case.now c.requires.case c.args.k c.requires.node
