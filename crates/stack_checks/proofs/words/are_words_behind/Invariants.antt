use Rattle.std.proofs.Common.{ℕ, ◌<◌}
use Rattle.stack_checks.specs.Checked.{IsWordBehind}
use Rattle.stack_checks.proofs.words.are_words_behind.Given as goal

abbrev pub invariant-loop-j : goal.invariant-loop-j
invariant-loop-j l = (j : ℕ) → j < l.j → IsWordBehind l.way l.h j
