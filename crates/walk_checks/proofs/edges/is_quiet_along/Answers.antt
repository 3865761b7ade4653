use Rattle.std.proofs.Common.{ℕ, ◌≡◌, true, refl}
use Rattle.walk_checks.specs.Walked.{cert}
use Rattle.walk_checks.proofs.Cases.{led_so}
use Rattle.walk_checks.proofs.edges.is_quiet_along.Goals as goal

pub returns-in-Some : goal.returns-in-Some
returns-in-Some c so b to quiet = led_so (λ (x : ℕ). (cert c.args.case.now).quiet x ≡ true) c.args.case.now.claim.now c.args.e c.in-Some.n (c.in-Some.ensures.some c.in-Some.n refl) (c.is_quiet_on.ensures so quiet) b to
