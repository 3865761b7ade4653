use Rattle.std.proofs.Common.{ℕ, refl}
use Rattle.loop_file.specs.Kept.{in_extent}
use Rattle.walk_checks.specs.Walked.{at_of, cert, IsLedSo}
use Rattle.walk_checks.proofs.Cases.{led_so}
use Rattle.walk_checks.proofs.edges.leads_so.Goals as goal

pub returns-in-Some : goal.returns-in-Some
returns-in-Some c so b to = led_so (λ (x : ℕ). IsLedSo (cert c.args.case.now) c.args.case.now.note.now.header (λ v. in_extent c.args.case.now.note.now v) (at_of c.args.case.now c.args.k) x) c.args.case.now.claim.now c.args.e c.in-Some.n (c.in-Some.ensures.some c.in-Some.n refl) (c.is_led_so.ensures so) b to
