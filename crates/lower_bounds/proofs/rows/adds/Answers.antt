use Rattle.std.proofs.Common.{◌∙◌}
use Rattle.lower_bounds.proofs.Seen.{adds_seen}
use Rattle.lower_bounds.proofs.rows.adds.Goals as goal

pub returns : goal.returns
returns c = c.adds_row.ensures ∙ adds_seen c.args.case.now.claim.now c.args.case.now.table.now c.requires.case.claim c.requires.case.sized c.args.k c.requires.node
