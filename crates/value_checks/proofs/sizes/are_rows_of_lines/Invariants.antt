use Rattle.std.proofs.Common.{ℕ, ◌<◌, get_or}
use Rattle.std.specs.Prelude.{Vec}
use Rattle.std.specs.declared.alloc.Global.{Global}
use Rattle.value_checks.specs.declared.tables.Line.{Line}
use Rattle.value_checks.specs.Tables.{IsRowOf}
use Rattle.value_checks.proofs.sizes.are_rows_of_lines.Given as goal

abbrev pub invariant-loop-lines : goal.invariant-loop-lines
invariant-loop-lines l = (i : ℕ) (other : Vec Line Global) → i < l.lines-index → IsRowOf (get_or l.rows i other)
