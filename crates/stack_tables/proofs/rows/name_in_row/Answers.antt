use Rattle.stack_tables.proofs.Seen.{read_at}
use Rattle.stack_tables.proofs.rows.name_in_row.Goals as goal

pub returns : goal.returns
returns c = read_at c.args.names.now c.from.result c.args.r c.from.ensures
