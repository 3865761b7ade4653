use Rattle.std.proofs.Common.{ℕ, ◌<◌, get_or}
use Rattle.std.specs.Prelude.{Vec}
use Rattle.std.specs.declared.alloc.Global.{Global}
use Rattle.stack_tables.specs.declared.tables.Dwindling.{Dwindling}
use Rattle.stack_tables.specs.Tables.{IsDwindlingRow}
use Rattle.stack_tables.proofs.sizes.are_rows_of_dwindling.Given as goal

abbrev pub invariant-loop-row : goal.invariant-loop-row
invariant-loop-row l = (i : ℕ) (other : Vec Dwindling Global) → i < l.row-index → IsDwindlingRow (get_or l.rows i other)
