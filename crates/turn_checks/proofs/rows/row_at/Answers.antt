use Rattle.std.proofs.Common.{◌∙◌, ap, List}
use Rattle.turn_checks.specs.declared.tables.Relation.{Relation}
use Rattle.turn_checks.specs.Turned.{relation_in}
use Rattle.turn_checks.proofs.Seen.{row_seen}
use Rattle.turn_checks.proofs.rows.row_at.Goals as goal

pub returns : goal.returns
returns c = c.relation_of.ensures ∙ (ap (λ (row : List Relation). relation_in row c.args.r) c.row_of_node.ensures ∙ row_seen c.args.claim.now c.args.table.now c.requires.claim c.requires.sized c.args.k c.args.r c.requires.node)
