use Rattle.std.proofs.Common.{◌∙◌, ap}
use Rattle.turn_checks.specs.Turned.{relation_view}
use Rattle.turn_checks.proofs.Seen.{own_seen}
use Rattle.turn_checks.proofs.rows.own_at.Goals as goal

pub returns : goal.returns
returns c = ap relation_view c.own_row.ensures ∙ own_seen c.args.claim.now c.args.table.now c.requires.claim c.requires.sized c.args.k c.requires.node
