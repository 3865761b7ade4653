use Rattle.std.proofs.Common.{◌≡◌, ℕ, true, refl}
use Rattle.stack_tables.specs.Tables.{stacks_in}
use Rattle.stack_checks.proofs.Confirmed.{led_so}
use Rattle.stack_checks.proofs.edges.is_spared_along.Goals as goal

pub returns-in-Some : goal.returns-in-Some
returns-in-Some c so j b to up = led_so (λ (x : ℕ). (stacks_in c.args.claim.now).spared j x ≡ true) c.args.claim.now c.args.e c.in-Some.n (c.in-Some.ensures.some c.in-Some.n refl) (c.is_spared_behind.ensures so j up) b to
