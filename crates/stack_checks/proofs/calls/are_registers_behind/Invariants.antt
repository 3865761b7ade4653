use Rattle.std.proofs.Common.{ℕ, ◌<◌}
use Rattle.bound_laws.specs.Values.{IsRegister}
use Rattle.stack_checks.specs.Checked.{IsRegisterBehind}
use Rattle.stack_checks.proofs.calls.are_registers_behind.Given as goal

abbrev pub invariant-loop-r : goal.invariant-loop-r
invariant-loop-r l = (r : ℕ) → IsRegister r → r < l.r → IsRegisterBehind l.way l.h r
