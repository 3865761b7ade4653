use Rattle.std.proofs.Common.{refl}
use Rattle.stack_checks.proofs.Cases.{all_passed}
use Rattle.stack_checks.proofs.edges.are_passed.Goals as goal

pub returns : goal.returns
returns c so = all_passed c.args.way.now (c.if-not-is_alive.ensures refl) (c.if-not-are_lines_covered.ensures refl) (c.if-not-are_registers_passed.ensures refl) (c.are_words_passed.ensures so) (c.if-not-are_told_passed.ensures refl) (c.if-not-are_dwindling_passed.ensures refl)
