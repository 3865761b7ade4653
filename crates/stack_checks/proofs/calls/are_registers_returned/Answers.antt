use Rattle.std.proofs.Common.{ℕ, refl, arith}
use Rattle.stack_laws.specs.Stacks.{IsReturned}
use Rattle.stack_tables.specs.Tables.{address, stacks_in, text_in, values_in}
use Rattle.stack_checks.proofs.Loops.{each_register, register_more}
use Rattle.stack_checks.proofs.calls.are_registers_returned.Goals as goal

pub loop-r-preserved : goal.loop-r-preserved
loop-r-preserved c = register_more (λ (x : ℕ). IsReturned (text_in c.args.claim.now) (values_in c.args.claim.now) (stacks_in c.args.claim.now) (address c.args.claim.now c.args.u) x) c.loop-r.r c.loop-r.invariant (c.if-not-is_register_returned.ensures refl)

pub returns : goal.returns
returns c so = each_register (λ (x : ℕ). IsReturned (text_in c.args.claim.now) (values_in c.args.claim.now) (stacks_in c.args.claim.now) (address c.args.claim.now c.args.u) x) c.loop-r.r (let test = c.loop-r-test.false in omega (arith, test)) c.loop-r.invariant
