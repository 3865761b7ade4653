use Rattle.std.proofs.Common.{ℕ, ◌<◌, get_or}
use Rattle.std.specs.Prelude.{Vec}
use Rattle.std.specs.declared.alloc.Global.{Global}
use Rattle.stack_tables.specs.declared.tables.Word.{Word}
use Rattle.stack_tables.specs.Tables.{IsRowOf}
use Rattle.stack_tables.proofs.sizes.are_rows_of_words.Given as goal

abbrev pub invariant-loop-words : goal.invariant-loop-words
invariant-loop-words l = (i : ℕ) (other : Vec Word Global) → i < l.words-index → IsRowOf (get_or l.rows i other)
