use Rattle.std.proofs.Common.{ℕ, ◌<◌}
use Rattle.bound_laws.specs.Values.{IsRegister}
use Rattle.stack_checks.specs.Checked.{IsCoveredAlong}
use Rattle.stack_checks.proofs.registers.are_registers_covered.Given as goal

abbrev pub invariant-loop-r : goal.invariant-loop-r
invariant-loop-r l = (r : ℕ) → IsRegister r → r < l.r → IsCoveredAlong l.way r
