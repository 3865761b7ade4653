use Rattle.std.proofs.Common.{ℕ, refl}
use Rattle.stack_tables.specs.Tables.{stacks_in, values_in}
use Rattle.walk_areas.specs.Walking.{IsPossible}
use Rattle.walk_checks.specs.Walked.{at_of, cert, IsStepSo}
use Rattle.walk_checks.proofs.Cases.{led_so}
use Rattle.walk_checks.proofs.edges.steps_so.Goals as goal

pub returns-in-None-Some : goal.returns-in-None-Some
returns-in-None-Some c so b to none = led_so (λ (x : ℕ). IsPossible (values_in c.args.case.now.claim.now) (at_of c.args.case.now c.args.k) c.args.i x → IsStepSo (values_in c.args.case.now.claim.now) (stacks_in c.args.case.now.claim.now) (cert c.args.case.now) c.args.case.now.note.now.header (at_of c.args.case.now c.args.k) c.args.i x) c.args.case.now.claim.now c.args.e c.in-None-Some.n (c.in-None-Some.ensures'.some c.in-None-Some.n refl) (c.is_possible_so.ensures so) b to
