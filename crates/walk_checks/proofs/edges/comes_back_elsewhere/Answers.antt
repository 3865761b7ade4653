use Rattle.std.proofs.Common.{◌≡◌, ℕ, refl, false}
use Rattle.walk_checks.specs.Walked.{at_of, cert}
use Rattle.walk_checks.proofs.Cases.{led_so}
use Rattle.walk_checks.proofs.edges.comes_back_elsewhere.Goals as goal

pub returns-in-Some-Some : goal.returns-in-Some-Some
returns-in-Some-Some c so f b called to = led_so (λ (x : ℕ). (cert c.args.case.now).body (at_of c.args.case.now c.args.k) ≡ false → x ≡ c.args.case.now.note.now.header → ⊥) c.args.case.now.claim.now c.args.e c.in-Some-Some.n
    (c.in-Some-Some.ensures'.some c.in-Some-Some.n refl) (c.is_back_elsewhere.ensures so) b to
