use Rattle.std.proofs.Common.{Some}
use Rattle.wrapped_intervals.specs.Small.{measure_view}
use Rattle.stack_checks.specs.Checked.{passed_along, to, values_along}
use Rattle.stack_checks.proofs.RowLines.{by_registers}
use Rattle.stack_checks.proofs.lines.is_line_as.Goals as goal

pub returns : goal.returns
returns c so = by_registers ((values_along c.args.way.now).lines (to c.args.way.now) c.args.j) c.line.result (passed_along c.args.way.now) (measure_view c.form.result) ((values_along c.args.way.now).forms c.args.j) (Some c.args.first) (Some c.args.other) c.line_by.result
    c.line.ensures.line c.form.ensures.form c.requires.first c.requires.other c.line_by.ensures.line (c.covers.ensures so)
