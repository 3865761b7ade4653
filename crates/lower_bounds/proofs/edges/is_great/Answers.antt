use Rattle.lower_bounds.specs.LowerBounds as lower
use Rattle.lower_bounds.specs.LowerTables.{at_of, cert}
use Rattle.lower_bounds.proofs.Cases.{great_in}
use Rattle.lower_bounds.proofs.edges.is_great.Goals as goal

pub returns-in-Some : goal.returns-in-Some
returns-in-Some c so = great_in c.args.case.now c.args.step c.of.result c.in-Some.low (lower.too_great (cert c.args.case.now) c.args.case.now.note.now.at_least (at_of c.args.case.now c.args.step.from)) c.in-Some.ensures.great c.of.ensures (c.is_counted_in.ensures so)
