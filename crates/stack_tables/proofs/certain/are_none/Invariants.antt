use Rattle.std.proofs.Common.{◌≡◌, ℕ, ◌<◌, Bool, false, get_or}
use Rattle.stack_tables.proofs.certain.are_none.Given as goal

abbrev pub invariant-loop-flag : goal.invariant-loop-flag
invariant-loop-flag l = (i : ℕ) (other : Bool) → i < l.flag-index → get_or l.flags i other ≡ false
