use Rattle.std.proofs.Common.{refl}
use Rattle.wrapped_intervals.specs.Small.{measure_view}
use Rattle.stack_checks.proofs.made.is_sum_of.Goals as goal

pub returns : goal.returns
returns c so = (c.args.k, measure_view c.args.m, c.shift_from-more.result, c.requires.side, (c.if-not-is_moved.ensures refl) c.shift_from-more.result c.shift_from-more.ensures, c.has_line_more.ensures so)
