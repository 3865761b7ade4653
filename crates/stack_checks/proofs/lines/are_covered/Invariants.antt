use Rattle.std.proofs.Common.{ℕ, ◌<◌, get_or}
use Rattle.value_checks.specs.declared.tables.Line.{Line}
use Rattle.stack_checks.specs.Checked.{IsLineAlong}
use Rattle.stack_checks.proofs.lines.are_covered.Given as goal

abbrev pub invariant-loop-known : goal.invariant-loop-known
invariant-loop-known l = (i : ℕ) (other : Line) → i < l.known-index → IsLineAlong l.way (get_or l.row i other).form
