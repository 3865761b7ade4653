use Rattle.std.proofs.Common.{ℕ, ◌<◌, get_or}
use Rattle.stack_tables.specs.declared.tables.FixedPart.{FixedPart}
use Rattle.stack_checks.specs.Checked.{IsFixedPart}
use Rattle.stack_checks.proofs.fixed.are_parts_fixed.Given as goal

abbrev pub invariant-loop-part : goal.invariant-loop-part
invariant-loop-part l = (i : ℕ) (other : FixedPart) → i < l.part-index → IsFixedPart l.view (get_or l.parts i other)
