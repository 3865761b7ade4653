use Rattle.std.proofs.Common.{◌∙◌}
use Rattle.walk_checks.proofs.Seen.{touched_seen}
use Rattle.walk_checks.proofs.rows.is_touched.Goals as goal

pub returns : goal.returns
returns c = c.touched_row.ensures ∙ touched_seen c.args.case.now c.requires.case c.args.k c.requires.node
