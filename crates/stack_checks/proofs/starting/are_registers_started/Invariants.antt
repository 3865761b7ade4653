use Rattle.std.proofs.Common.{ℕ, ◌<◌}
use Rattle.bound_laws.specs.Values.{IsRegister}
use Rattle.stack_tables.specs.Tables.{address, values_in}
use Rattle.scale_base.specs.State.{reg}
use Rattle.bound_laws.specs.Laws.{starting_registers}
use Rattle.bound_laws.specs.Values.{IsHeld}
use Rattle.stack_checks.proofs.starting.are_registers_started.Given as goal

abbrev pub invariant-loop-r : goal.invariant-loop-r
invariant-loop-r l = (r : ℕ) → IsRegister r → r < l.r → IsHeld ((values_in l.claim).at (address l.claim l.k) r) (reg starting_registers r)
