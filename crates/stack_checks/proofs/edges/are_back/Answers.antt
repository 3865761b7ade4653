use Rattle.std.proofs.Common.{refl}
use Rattle.stack_checks.proofs.Cases.{all_back}
use Rattle.stack_checks.proofs.edges.are_back.Goals as goal

pub returns : goal.returns
returns c so = all_back c.args.way.now c.args.h (c.if-not-is_alive.ensures refl) (c.if-not-are_lines_behind.ensures refl) (c.if-not-are_registers_behind.ensures refl) (c.are_words_behind.ensures so) (c.if-not-is_none_told.ensures refl) (c.if-not-is_none_dwindling.ensures refl)
