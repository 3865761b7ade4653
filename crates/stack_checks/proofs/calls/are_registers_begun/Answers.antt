use Rattle.std.proofs.Common.{ℕ, refl, arith}
use Rattle.stack_tables.specs.Tables.{address, stacks_in}
use Rattle.stack_checks.specs.Checked.{IsRegisterBegun}
use Rattle.stack_checks.proofs.Loops.{each_register, register_more}
use Rattle.stack_checks.proofs.calls.are_registers_begun.Goals as goal

pub loop-r-preserved : goal.loop-r-preserved
loop-r-preserved c = register_more (λ (x : ℕ). IsRegisterBegun (stacks_in c.args.claim.now) (address c.args.claim.now c.args.n) x) c.loop-r.r c.loop-r.invariant (c.if-not-is_register_begun.ensures refl)

pub returns : goal.returns
returns c so = each_register (λ (x : ℕ). IsRegisterBegun (stacks_in c.args.claim.now) (address c.args.claim.now c.args.n) x) c.loop-r.r (let test = c.loop-r-test.false in omega (arith, test)) c.loop-r.invariant
