use Rattle.std.proofs.Common.{ℕ, ◌<◌, get_or}
use Rattle.value_checks.specs.declared.tables.Line.{Line}
use Rattle.stack_tables.specs.Tables.{address, values_in}
use Rattle.stack_checks.specs.Checked.{IsLineStarted}
use Rattle.stack_checks.proofs.lines.are_started.Given as goal

abbrev pub invariant-loop-known : goal.invariant-loop-known
invariant-loop-known l = (i : ℕ) (other : Line) → i < l.known-index → IsLineStarted (values_in l.claim) (address l.claim l.k) (get_or l.row i other).form
