use Rattle.std.proofs.Common.{ℕ, ◌<◌, get_or}
use Rattle.std.specs.Prelude.{Vec}
use Rattle.std.specs.declared.alloc.Global.{Global}
use Rattle.stack_tables.specs.declared.tables.Told.{Told}
use Rattle.stack_tables.specs.Tables.{IsToldRow}
use Rattle.stack_tables.proofs.sizes.are_rows_of_told.Given as goal

abbrev pub invariant-loop-row : goal.invariant-loop-row
invariant-loop-row l = (i : ℕ) (other : Vec Told Global) → i < l.row-index → IsToldRow (get_or l.rows i other)
