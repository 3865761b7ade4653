use Rattle.std.proofs.Common.{ℕ, ◌<◌, get_or}
use Rattle.stack_tables.specs.declared.tables.Word.{Word}
use Rattle.stack_tables.specs.Tables.{IsWordKept}
use Rattle.stack_tables.proofs.sizes.are_words_kept.Given as goal

abbrev pub invariant-loop-word : goal.invariant-loop-word
invariant-loop-word l = (i : ℕ) (other : Word) → i < l.word-index → IsWordKept (get_or l.words i other)
