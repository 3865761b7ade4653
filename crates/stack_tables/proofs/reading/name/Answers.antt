use Rattle.std.proofs.Common.{◌∙◌, ap, List, Option}
use Rattle.stack_tables.specs.declared.tables.Name.{Name}
use Rattle.stack_tables.specs.Tables.{named, name_in}
use Rattle.stack_tables.proofs.Seen.{name_seen}
use Rattle.stack_tables.proofs.reading.name.Goals as goal

pub returns : goal.returns
returns c = ap named c.name_in_row.ensures ∙ (ap (λ (names : List (Option Name)). named (name_in names c.args.r)) c.names_row.ensures.row ∙ name_seen c.args.claim.now c.requires.claim c.args.k c.args.r c.requires.node)
