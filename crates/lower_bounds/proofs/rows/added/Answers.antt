use Rattle.std.proofs.Common.{◌∙◌}
use Rattle.lower_bounds.proofs.Seen.{added_seen}
use Rattle.lower_bounds.proofs.rows.added.Goals as goal

pub returns : goal.returns
returns c = c.added_row.ensures ∙ added_seen c.args.case.now.claim.now c.args.case.now.table.now c.requires.case.claim c.requires.case.sized c.args.k c.requires.node
