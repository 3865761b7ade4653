use Rattle.std.proofs.Common.{ℕ, refl, arith}
use Rattle.stack_checks.specs.Checked.{IsRegisterPassed}
use Rattle.stack_checks.proofs.Loops.{each_register, register_more}
use Rattle.stack_checks.proofs.registers.are_registers_passed.Goals as goal

pub loop-r-preserved : goal.loop-r-preserved
loop-r-preserved c = register_more (λ (x : ℕ). IsRegisterPassed c.args.way.now x) c.loop-r.r c.loop-r.invariant (c.if-not-is_register_passed.ensures refl)

pub returns : goal.returns
returns c so = each_register (λ (x : ℕ). IsRegisterPassed c.args.way.now x) c.loop-r.r (let test = c.loop-r-test.false in omega (arith, test)) c.loop-r.invariant
