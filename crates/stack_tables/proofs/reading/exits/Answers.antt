use Rattle.std.proofs.Common.{◌∙◌, ap}
use Rattle.wrapped_intervals.specs.Small.{row}
use Rattle.stack_tables.proofs.Seen.{exits_seen}
use Rattle.stack_tables.proofs.reading.exits.Goals as goal

pub returns-clause-exits : goal.returns-clause-exits
returns-clause-exits c = ap row c.exits_row.ensures.row ∙ exits_seen c.args.claim.now c.args.k c.owner.result c.owner.ensures.owner
