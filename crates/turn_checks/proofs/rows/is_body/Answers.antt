use Rattle.std.proofs.Common.{◌∙◌}
use Rattle.turn_checks.proofs.Seen.{body_seen}
use Rattle.turn_checks.proofs.rows.is_body.Goals as goal

pub returns : goal.returns
returns c = c.body_row.ensures ∙ body_seen c.args.claim.now c.args.table.now c.requires.claim c.requires.sized c.args.k c.requires.node
