use Rattle.std.proofs.Common.{ℕ, ◌<◌, get_or}
use Rattle.value_checks.specs.declared.tables.Line.{Line}
use Rattle.value_checks.specs.Tables.{IsLineKept}
use Rattle.value_checks.proofs.sizes.are_lines_kept.Given as goal

abbrev pub invariant-loop-line : goal.invariant-loop-line
invariant-loop-line l = (i : ℕ) (other : Line) → i < l.line-index → IsLineKept (get_or l.lines i other)
