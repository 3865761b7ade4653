use Rattle.stack_checks.specs.Checked.{IsLineAlong, to, values_along}
use Rattle.stack_checks.proofs.RowLines.{covers_none, each_line}
use Rattle.std.proofs.Common.{inl}
use Rattle.stack_checks.proofs.lines.are_lines_covered.Goals as goal

pub returns : goal.returns
returns c so = each_line (IsLineAlong c.args.way.now) ((values_along c.args.way.now).lines (to c.args.way.now)) c.lines.result.now c.lines.ensures.lines (c.are_covered.ensures so) (λ j none. record { covered = inl (inl (covers_none _ _ none)) })
