use Rattle.std.proofs.Common.{◌∙◌, ap}
use Rattle.wrapped_intervals.specs.Small.{row}
use Rattle.stack_tables.proofs.Seen.{arcs_seen}
use Rattle.stack_tables.proofs.reading.arcs.Goals as goal

pub returns-clause-arcs : goal.returns-clause-arcs
returns-clause-arcs c = ap row c.arcs_row.ensures.row ∙ arcs_seen c.args.claim.now c.requires.claim c.args.k c.requires.node
