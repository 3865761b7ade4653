use Rattle.std.proofs.Common.{ℕ, ◌<◌, get_or}
use Rattle.stack_tables.specs.declared.tables.Dwindling.{Dwindling}
use Rattle.stack_tables.specs.Tables.{IsDwindlingKept}
use Rattle.stack_tables.proofs.sizes.are_dwindling_kept.Given as goal

abbrev pub invariant-loop-pair : goal.invariant-loop-pair
invariant-loop-pair l = (i : ℕ) (other : Dwindling) → i < l.pair-index → IsDwindlingKept (get_or l.row i other)
