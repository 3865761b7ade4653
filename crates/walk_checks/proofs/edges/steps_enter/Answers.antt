use Rattle.std.proofs.Common.{ℕ, refl}
use Rattle.walk_checks.specs.Walked.{at_of, IsStepEntering}
use Rattle.walk_checks.proofs.Cases.{led_so}
use Rattle.walk_checks.proofs.edges.steps_enter.Goals as goal

pub returns-in-None-Some : goal.returns-in-None-Some
returns-in-None-Some c so b none to = led_so (λ (x : ℕ). IsStepEntering c.args.case.now (at_of c.args.case.now c.args.k) x) c.args.case.now.claim.now c.args.e c.in-None-Some.n (c.in-None-Some.ensures'.some c.in-None-Some.n refl)
    (c.is_step_entering.ensures so) b to
