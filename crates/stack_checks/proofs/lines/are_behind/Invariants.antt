use Rattle.std.proofs.Common.{ℕ, ◌<◌, get_or}
use Rattle.value_checks.specs.declared.tables.Line.{Line}
use Rattle.stack_checks.specs.Checked.{IsLineBehind}
use Rattle.stack_checks.proofs.lines.are_behind.Given as goal

abbrev pub invariant-loop-known : goal.invariant-loop-known
invariant-loop-known l = (i : ℕ) (other : Line) → i < l.known-index → IsLineBehind l.way l.h (get_or l.row i other).form
