use Rattle.std.proofs.Common.{ℕ, refl}
use Rattle.stack_laws.specs.Stacks.{IsPassed}
use Rattle.stack_tables.specs.Tables.{address, stacks_in, values_in}
use Rattle.stack_checks.proofs.Confirmed.{led_so}
use Rattle.stack_checks.proofs.edges.is_step_checked.Goals as goal

pub returns-in-None-Some : goal.returns-in-None-Some
returns-in-None-Some c so b to none = led_so (λ (x : ℕ). IsPassed (values_in c.args.claim.now) (stacks_in c.args.claim.now) c.args.i (address c.args.claim.now c.args.k) x) c.args.claim.now c.args.e c.in-None-Some.n (c.in-None-Some.ensures'.some c.in-None-Some.n refl) (c.is_way_passed.ensures so) b to
