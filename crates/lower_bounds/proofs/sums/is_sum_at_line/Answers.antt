use Rattle.wrapped_intervals.specs.Small.{measure_view}
use Rattle.lower_bounds.proofs.Cases.{at_line}
use Rattle.lower_bounds.proofs.sums.is_sum_at_line.Goals as goal

pub returns-in-Some : goal.returns-in-Some
returns-in-Some c so = at_line c.args.claim.now c.args.k (measure_view c.args.m) c.args.y c.in-Some.line c.requires.node c.in-Some.ensures.line (c.is_within.ensures so)
