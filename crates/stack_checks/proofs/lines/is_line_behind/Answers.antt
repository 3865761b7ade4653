use Rattle.std.proofs.Common.{refl}
use Rattle.stack_laws.specs.Stacks.IsSumBack.{anew as sum_anew, restored as sum_restored}
use Rattle.stack_checks.proofs.lines.is_line_behind.Goals as goal

pub returns-then-is_line_anew : goal.returns-then-is_line_anew
returns-then-is_line_anew c so = record { back = sum_anew (c.if-is_line_anew.ensures refl) }

pub returns : goal.returns
returns c so = record { back = sum_restored (c.if-not-is_given_both.ensures.register refl) (c.if-not-is_given_both.ensures.other refl) (c.is_line_left.ensures so) }
