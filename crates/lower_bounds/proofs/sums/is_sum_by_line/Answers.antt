use Rattle.wrapped_intervals.specs.Small.{measure_view}
use Rattle.lower_bounds.proofs.Cases.{by_line}
use Rattle.lower_bounds.proofs.sums.is_sum_by_line.Goals as goal

pub returns-in-Some : goal.returns-in-Some
returns-in-Some c so = by_line c.args.claim.now c.args.step (measure_view c.args.m) c.args.y c.in-Some.line c.args.adds c.requires.step.from c.requires.adds c.in-Some.ensures.line (c.is_moved_to.ensures so)
