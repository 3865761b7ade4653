use Rattle.std.proofs.Common.{◌∙◌}
use Rattle.stack_tables.proofs.reading.line.Goals as goal

pub returns-clause-line : goal.returns-clause-line
returns-clause-line c = c.line_in_row.ensures.line ∙ c.lines.ensures.lines c.args.j
