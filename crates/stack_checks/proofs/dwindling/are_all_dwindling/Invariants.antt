use Rattle.std.proofs.Common.{ℕ, ◌<◌, get_or}
use Rattle.stack_tables.specs.declared.tables.Dwindling.{Dwindling}
use Rattle.stack_checks.specs.Checked.{IsDwindlingAlong}
use Rattle.stack_checks.proofs.dwindling.are_all_dwindling.Given as goal

abbrev pub invariant-loop-y : goal.invariant-loop-y
invariant-loop-y l = (i : ℕ) (other : Dwindling) → i < l.y-index → IsDwindlingAlong l.way (get_or l.row i other)
