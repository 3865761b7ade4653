use Rattle.std.proofs.Common.{ℕ, ◌<◌}
use Rattle.bound_laws.specs.Values.{IsRegister}
use Rattle.stack_tables.specs.Tables.{address, stacks_in}
use Rattle.stack_checks.specs.Checked.{IsRegisterBegun}
use Rattle.stack_checks.proofs.calls.are_registers_begun.Given as goal

abbrev pub invariant-loop-r : goal.invariant-loop-r
invariant-loop-r l = (r : ℕ) → IsRegister r → r < l.r → IsRegisterBegun (stacks_in l.claim) (address l.claim l.n) r
