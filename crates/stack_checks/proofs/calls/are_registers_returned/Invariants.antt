use Rattle.std.proofs.Common.{ℕ, ◌<◌}
use Rattle.bound_laws.specs.Values.{IsRegister}
use Rattle.stack_laws.specs.Stacks.{IsReturned}
use Rattle.stack_tables.specs.Tables.{address, stacks_in, text_in, values_in}
use Rattle.stack_checks.proofs.calls.are_registers_returned.Given as goal

abbrev pub invariant-loop-r : goal.invariant-loop-r
invariant-loop-r l = (r : ℕ) → IsRegister r → r < l.r → IsReturned (text_in l.claim) (values_in l.claim) (stacks_in l.claim) (address l.claim l.u) r
