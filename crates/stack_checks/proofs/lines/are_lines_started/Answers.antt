use Rattle.stack_tables.specs.Tables.{address, values_in}
use Rattle.stack_checks.specs.Checked.{IsLineStarted}
use Rattle.stack_checks.proofs.RowLines.{each_line, held_none}
use Rattle.stack_checks.proofs.lines.are_lines_started.Goals as goal

pub returns : goal.returns
returns c so = each_line (IsLineStarted (values_in c.args.claim.now) (address c.args.claim.now c.args.k)) ((values_in c.args.claim.now).lines (address c.args.claim.now c.args.k)) c.lines.result.now c.lines.ensures.lines (c.are_started.ensures so) (λ j none. held_none _ _ none)
