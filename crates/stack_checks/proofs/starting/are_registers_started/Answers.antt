use Rattle.std.proofs.Common.{ℕ, refl, arith}
use Rattle.stack_tables.specs.Tables.{address, values_in}
use Rattle.scale_base.specs.State.{reg}
use Rattle.bound_laws.specs.Laws.{starting_registers}
use Rattle.bound_laws.specs.Values.{IsHeld}
use Rattle.stack_checks.proofs.Loops.{register_more, each_register}
use Rattle.stack_checks.proofs.starting.are_registers_started.Goals as goal

pub loop-r-preserved : goal.loop-r-preserved
loop-r-preserved c = register_more (λ (x : ℕ). IsHeld ((values_in c.args.claim.now).at (address c.args.claim.now c.args.k) x) (reg starting_registers x)) c.loop-r.r c.loop-r.invariant (c.if-not-is_register_started.ensures refl)

pub returns : goal.returns
returns c so = each_register (λ (x : ℕ). IsHeld ((values_in c.args.claim.now).at (address c.args.claim.now c.args.k) x) (reg starting_registers x)) c.loop-r.r (let test = c.loop-r-test.false in omega (arith, test)) c.loop-r.invariant
