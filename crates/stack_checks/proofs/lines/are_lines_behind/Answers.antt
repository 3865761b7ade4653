use Rattle.stack_laws.specs.Stacks.IsSumBack.{anew as sum_anew}
use Rattle.stack_checks.specs.Checked.{IsLineBehind, to, values_along}
use Rattle.stack_checks.proofs.RowLines.{covers_none, each_line}
use Rattle.stack_checks.proofs.lines.are_lines_behind.Goals as goal

pub returns : goal.returns
returns c so = each_line (IsLineBehind c.args.way.now c.args.h) ((values_along c.args.way.now).lines (to c.args.way.now)) c.lines.result.now c.lines.ensures.lines (c.are_behind.ensures so) (λ j none. record { back = sum_anew (covers_none _ _ none) })
